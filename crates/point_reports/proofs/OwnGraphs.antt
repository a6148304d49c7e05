-- The graphs that stand for a program are those of its procedures, with edges and assertions between
-- their nodes.
use Rattle.std.proofs.Common.{◌≡◌, ℕ, suc, ◌<◌, List, [], ◌∷◌, length, map, get_or, refl, sym, ap, ◌∙◌, arith}
use Rattle.std.specs.Prelude.{All, Option, None, Some, slice_get, unwrap_or}
use Rattle.std.specs.Option.{option_map}
use Rattle.std.specs.List.{AllByRecursion}
use Rattle.std.proofs.lemmas.List.{length-map}
use Rattle.std.proofs.lemmas.List.Elements.{All-from_recursion}
use Rattle.std.proofs.lemmas.Option.{same_Some, slice_get-map, slice_get_read, slice_get_within}
use Rattle.syntax_tree.specs.declared.program.Proc.{Proc}
use Rattle.syntax_tree.specs.declared.program.Program.{Program}
use Rattle.flow_graph.specs.declared.parts.Graph.{Graph}
use Rattle.flow_graph.specs.FlowGraph.{CheckPlace, FlowGraph, body_of, flow_of, graph_of}
use Rattle.flow_graph.specs.Plain.{check_of, plain}
use Rattle.flow_graph.proofs.Within.{edges_within, stops_within}
use Rattle.proc_summary.specs.Parts.{IsGraphOf}
use Rattle.proc_summary.specs.Subject.{own_graph}
use Rattle.point_induction.specs.Heads.{AreInside}
use Rattle.point_induction.specs.Points.{heads_of}
use Rattle.point_rounds.specs.Source.{AreGraphsOf, all_heads}
use Rattle.analysis.specs.declared.standing.CheckAt.{CheckAt}
use Rattle.analysis.specs.declared.standing.Standing.{Standing}
use Rattle.analysis.specs.Claims.{IsCheckOf, IsStanding}
use Rattle.point_reports.specs.Parts.{AreHeadsOf}

module _ (program : Program) (standing : Standing) (is : IsStanding program standing) where
  graph-same : (proc : ℕ) (g : Graph) → slice_get standing.graphs proc ≡ Some g → plain g ≡ graph_of program proc
  graph-same proc g at =
      by (slice_get program.procs proc)
      (sym (slice_get-map plain standing.graphs proc ∙ ap (option_map plain) at) ∙ ap (λ all. slice_get all proc) is.graphs ∙ slice_get-map own_graph program.procs proc)
    where
      by : (o : Option Proc) → Some (plain g) ≡ option_map own_graph o → plain g ≡ flow_of (body_of o)
      by None e = absurd (cc e)
      by (Some p) e = ap (λ o. unwrap_or o (plain g)) e

  pub graphs-are : AreGraphsOf program standing.graphs
  graphs-are = record {
    each = sym (length-map standing.graphs plain) ∙ ap length is.graphs ∙ length-map program.procs own_graph;
    are = λ proc g at. let same = graph-same proc g at in record { same = same; edges = edges_within program proc g same; checks = stops_within program proc g same };
  }

graphs-inside : (graphs : List Graph) → ((k : ℕ) (g : Graph) → slice_get graphs k ≡ Some g → AreInside g) → AllByRecursion AreInside graphs
graphs-inside [] each = tt
graphs-inside (g ∷ graphs) each = (each 0 g refl, graphs-inside graphs (λ k h at. each (suc k) h at))

-- ---- an assertion where it stands

-- a graph is there, with its heads, and the assertion among its assertions
pub record IsOwn (program : Program) (proc check : ℕ) (graph : Graph) (heads : List ℕ) : Type 0 where
  pub within : proc < length program.procs
  pub graph_is : IsGraphOf program proc graph
  pub heads_are : heads ≡ heads_of (plain graph)
  pub check_within : check < length graph.checks

module _ (program : Program) (graphs : List Graph) (heads : List (List ℕ)) (are : AreGraphsOf program graphs) (same : heads ≡ all_heads graphs) (c : CheckAt) (is : IsCheckOf program c) where
  pub proc-within : c.proc < length program.procs
  proc-within = slice_get_within program.procs c.proc is.p is.is

  pub graph-there : c.proc < length graphs
  graph-there = let within = proc-within in let each = are.each in omega (arith, within, each)

  pub heads-there : c.proc < length heads
  heads-there = let within = graph-there in let long = ap length same ∙ length-map graphs (λ (g : Graph). heads_of (plain g)) in omega (arith, within, long)

  pub own-of : (graph : Graph) (own : List ℕ) → graph ≡ get_or graphs c.proc graph → own ≡ get_or heads c.proc own → IsOwn program c.proc c.check graph own
  own-of graph own read seen =
      let at : slice_get graphs c.proc ≡ Some graph = slice_get_read graphs (length graphs) c.proc graph refl graph-there read in
      let told : slice_get heads c.proc ≡ Some own = slice_get_read heads (length heads) c.proc own refl heads-there seen in
      let mapped : slice_get heads c.proc ≡ Some (heads_of (plain graph)) = ap (λ l. slice_get l c.proc) same ∙ slice_get-map (λ (g : Graph). heads_of (plain g)) graphs c.proc ∙ ap (option_map (λ (g : Graph). heads_of (plain g))) at in
      let graph_is = are.are c.proc graph at in
      let checks : map check_of graph.checks ≡ (own_graph is.p).checks = ap (λ (f : FlowGraph). f.checks) (graph_is.same ∙ ap (λ o. flow_of (body_of o)) is.is) in
      let below = slice_get_within (own_graph is.p).checks c.check is.at is.at_is in
      let long = sym (length-map graph.checks check_of) ∙ ap length checks in
      record {
        within = proc-within;
        graph_is = graph_is;
        heads_are = same_Some own (heads_of (plain graph)) (sym told ∙ mapped);
        check_within = omega (arith, below, long);
      }

-- the place of the assertion in its graph
pub check-stands : (program : Program) (c : CheckAt) (is : IsCheckOf program c) → slice_get (graph_of program c.proc).checks c.check ≡ Some is.at
check-stands program c is = ap (λ o. slice_get (flow_of (body_of o)).checks c.check) is.is ∙ is.at_is

pub check-own : (program : Program) (c : CheckAt) (is : IsCheckOf program c) (check : CheckPlace) → slice_get (graph_of program c.proc).checks c.check ≡ Some check → slice_get (own_graph is.p).checks c.check ≡ Some check
check-own program c is check at = sym (ap (λ o. slice_get (flow_of (body_of o)).checks c.check) is.is) ∙ at

pub inside-all : (program : Program) (standing : Standing) → IsStanding program standing → All AreInside standing.graphs
inside-all program standing is = All-from_recursion AreInside standing.graphs (graphs-inside standing.graphs (λ k g at. ((graphs-are program standing is).are k g at).edges))

pub heads-are : (program : Program) (graphs : List Graph) (heads : List (List ℕ)) → AreGraphsOf program graphs → heads ≡ all_heads graphs → AreHeadsOf program heads
heads-are program graphs heads are same = record {
  each = ap length same ∙ length-map graphs (λ (g : Graph). heads_of (plain g)) ∙ are.each;
  are = λ proc own at. by proc own (slice_get graphs proc) refl (sym at ∙ ap (λ l. slice_get l proc) same ∙ slice_get-map (λ (g : Graph). heads_of (plain g)) graphs proc);
}
  where
    by : (proc : ℕ) (own : List ℕ) (o : Option Graph) → slice_get graphs proc ≡ o → Some own ≡ option_map (λ (g : Graph). heads_of (plain g)) (slice_get graphs proc) → own ≡ heads_of (graph_of program proc)
    by proc own None there e = let none = e ∙ ap (option_map (λ (g : Graph). heads_of (plain g))) there in absurd (cc none)
    by proc own (Some g) there e = same_Some own (heads_of (plain g)) (e ∙ ap (option_map (λ (g : Graph). heads_of (plain g))) there) ∙ ap heads_of (are.are proc g there).same
