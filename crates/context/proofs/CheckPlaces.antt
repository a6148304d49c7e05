-- The assertion with a number in the flow of a procedure, and its condition.
use Rattle.std.proofs.Common.{◌≡◌, ℕ, ◌<◌, length, map, Option, Some, sym, ap, ◌∙◌, arith}
use Rattle.std.specs.Prelude.{IsTrue, ◌&&◌, nat_le, slice_get}
use Rattle.std.specs.Option.{option_map}
use Rattle.std.proofs.lemmas.Bool.{leb-true}
use Rattle.std.proofs.lemmas.List.{length-map}
use Rattle.std.proofs.lemmas.List.Elements.{recursion_from_All}
use Rattle.std.proofs.lemmas.Option.{slice_get-map}
use Rattle.items.proofs.Each.{each-get}
use Rattle.syntax_tree.specs.declared.program.Proc.{Proc}
use Rattle.syntax_tree.specs.declared.program.Program.{Program}
use Rattle.syntax_tree.specs.Term.{Term, term_of}
use Rattle.syntax_tree.specs.Cases.{cases_of}
use Rattle.syntax_tree.specs.WellFormed.{IsWellFormed, columns_below, cond_fits, operators_of, width_of}
use Rattle.vocabularies.specs.Procs.{IsProcOf}
use Rattle.flow_graph.specs.declared.parts.CheckNode.{CheckNode}
use Rattle.flow_graph.specs.declared.parts.Graph.{Graph}
use Rattle.flow_graph.specs.FlowGraph.{CheckPlace, FlowGraph, body_of, flow_of, graph_of}
use Rattle.flow_graph.specs.Plain.{check_of, plain}
use Rattle.proc_summary.specs.declared.stop.Flow.{Flow}
use Rattle.proc_summary.specs.declared.stop.NodeFormula.{NodeFormula}
use Rattle.proc_summary.specs.Claims.{FitsFlow, FitsIf, FitsStop}
use Rattle.proc_summary.specs.Subject.{own_graph}
use Rattle.context.specs.Ends.{IsCondition}
use Rattle.context.proofs.AssertionPlaces.{check-fits, proc-fit, some-one, two}

condition : (columns : ℕ) (cond : Term) → IsTrue (cond_fits columns cond) → IsCondition columns cond
condition columns cond h =
    let a = two (columns_below columns cond && nat_le (operators_of cond) 200000 && nat_le (cases_of cond).truth 256) (nat_le (cases_of cond).falsity 256) h in
    let b = two (columns_below columns cond && nat_le (operators_of cond) 200000) (nat_le (cases_of cond).truth 256) a.0 in
    let d = two (columns_below columns cond) (nat_le (operators_of cond) 200000) b.0 in
    let few = leb-true (operators_of cond) 200000 d.1 in
    record { below = d.0; operators = omega (arith, few) }

module _ (program : Program) (proc : ℕ) (p : Proc) (is : IsProcOf program proc p) (g : Graph) (same : plain g ≡ graph_of program proc) where
  checks-are : map check_of g.checks ≡ (own_graph p).checks
  checks-are = ap (λ (f : FlowGraph). f.checks) (same ∙ ap (λ (o : Option Proc). flow_of (body_of o)) is)

  pub check-within : (flow : Flow) (check : ℕ) → FitsFlow program p flow → check < length flow.checks → check < length g.checks
  check-within flow check fit lt =
      let nodes = ap length fit.checks_are in
      let stops = length-map flow.checks (λ (s : NodeFormula). s.node) in
      let places = length-map (own_graph p).checks (λ (c : CheckPlace). c.node) in
      let own = ap length (sym checks-are) ∙ length-map g.checks check_of in
      omega (arith, nodes, stops, places, own, lt)

  check-there : (check : ℕ) (x : CheckNode) → slice_get g.checks check ≡ Some x → slice_get (own_graph p).checks check ≡ Some (check_of x)
  check-there check x at = ap (λ l. slice_get l check) (sym checks-are) ∙ slice_get-map check_of g.checks check ∙ ap (option_map check_of) at

  pub cond-fits : (check : ℕ) (x : CheckNode) → IsWellFormed program → slice_get g.checks check ≡ Some x → IsCondition (width_of program p) (term_of x.cond)
  cond-fits check x formed at =
      condition (width_of program p) (term_of x.cond) (two _ _ (check-fits program p check (check_of x) (proc-fit program proc p formed is) (check-there check x at))).1

  pub cond-is : (check : ℕ) (x : CheckNode) (place : CheckPlace) → slice_get g.checks check ≡ Some x → slice_get (own_graph p).checks check ≡ Some place → term_of x.cond ≡ place.cond
  cond-is check x place at there = ap (λ (c : CheckPlace). c.cond) (some-one (slice_get (own_graph p).checks check) (check_of x) place (check-there check x at) there)

pub stand-fits : (program : Program) (p : Proc) (flow : Flow) (check : ℕ) (stop : NodeFormula) → FitsFlow program p flow → slice_get flow.checks check ≡ Some stop → FitsIf (width_of program p) stop.formula
stand-fits program p flow check stop fit at = each-get (FitsStop (width_of program p)) flow.checks check stop (recursion_from_All (FitsStop (width_of program p)) flow.checks fit.checks) at
