-- The formulas of edges go between states, and a procedure's graph can be evaluated.
use Rattle.std.proofs.Common.{◌≡◌, ℕ, ◌+◌, ◌<◌, ◌≤◌, Bool, true, false, List, [], ◌∷◌, length, map, Option, Some, None, refl, sym, ap, subst, ◌∙◌, cond, arith}
use Rattle.std.specs.Prelude.{IsTrue, ◌||◌, not, get_or, slice_get}
use Rattle.std.specs.Option.{is_some}
use Rattle.std.specs.List.{AllByRecursion}
use Rattle.std.proofs.lemmas.List.Elements.{All-map}
use Rattle.std.proofs.lemmas.Option.{slice_get-get_or}
use Rattle.items.proofs.Each.{each-map}
use Rattle.path_expr.specs.declared.link.Link.{Link}
use Rattle.path_expr.specs.Walks.{IsGraph}
use Rattle.syntax_tree.specs.declared.program.Proc.{Proc}
use Rattle.syntax_tree.specs.declared.program.Program.{Program}
use Rattle.syntax_tree.specs.Code.{Statement, Set, Any, Call, Guard, Check, If, Loop, Break, Continue, Return, code_of}
use Rattle.syntax_tree.specs.WellFormed.{IsWellFormed, width_of}
use Rattle.transition_formula.specs.Transition.{Transition}
use Rattle.transition_formula.proofs.Fitting.{sequence_of-fits}
use Rattle.flow_graph.specs.FlowGraph.{Arc, FlowGraph}
use Rattle.flow_graph.proofs.Within.{arcs_within}
use Rattle.leaf_cases.specs.Conditions.{AreKnown, IsActOf, IsKnown, exits_of}
use Rattle.leaf_cases.specs.Edges.{any_case, arguments_of, awaited_count, call_of, call_sequence, cut, entering, known_call, leaf_of, leaving_case, set_case}
use Rattle.leaf_cases.specs.Expression.{lists_of}
use Rattle.leaf_cases.specs.Guard.{columns_of, with_posts}
use Rattle.leaf_cases.proofs.Arguments.{arguments-fit}
use Rattle.leaf_cases.proofs.CanonicalLeaves.{leaf-canonical}
use Rattle.leaf_cases.proofs.EdgeFits.{any_fits, cut_fits, entering_fits, leaving_fits, set_fits}
use Rattle.leaf_cases.proofs.Graphs.{CallFits, EdgeFits, act-fits}
use Rattle.leaf_cases.proofs.Guards.{guard_fits, truth_covered}
use Rattle.checked_tree.specs.Law.{HaveCanonicalLeaves, IsEvaluated}
use Rattle.polyhedra.specs.Laws.{HaveCanonicalRows}
use Rattle.vocabularies.specs.Procs.{IsProcOf}
use Rattle.proc_summary.specs.Parts.{IsFit}
use Rattle.proc_summary.specs.Subject.{arc_leaf, graph_by, link_of, own_graph, subject_of}
use Rattle.proc_summary.proofs.Graphs.{graph-is, is-evaluated}
use Rattle.newton_rounds.proofs.GroupCalls.{each-got}
use Rattle.checked_tree.proofs.CanonicalEvaluations.{rows-canonical}

module _ (program : Program) (width : ℕ) (wide : length program.globals ≤ width) (known : List (Option Transition)) (are : AreKnown program known) where
  abbrev globals : ℕ
  globals = length program.globals

  awaited-there : (callee : Proc) (into : Option ℕ) → IsTrue (callee.returns || not (is_some into)) → awaited_count globals into ≤ exits_of program callee
  awaited-there callee into h = go callee.returns into h
    where
      go : (b : Bool) (into : Option ℕ) → IsTrue (b || not (is_some into)) → awaited_count globals into ≤ cond b (globals + 1) globals
      go true None h = omega arith
      go true (Some col) h = omega arith
      go false None h = omega arith
      go false (Some col) h = cc

  call-fits : (proc : ℕ) (args : List _) (into : Option ℕ) (f : Transition) → CallFits program width proc args into → slice_get known proc ≡ Some (Some f) → IsFit (call_of width globals args into f)
  call-fits proc args into f fit is =
      let k : IsKnown program fit.callee f = are.fit proc fit.callee f fit.is is in
      let a = entering width globals (length args) (arguments_of args).cases in
      let b = cut (awaited_count globals into) f in
      let enters = k.enters in
      let params = fit.params in
      leaving_fits width globals into (call_sequence width globals args into f).cases (map (leaving_case width globals into) (call_sequence width globals args into f).cases) wide
      (sequence_of-fits a b (omega (arith, enters, params)) (entering_fits width globals (length args) (arguments_of args).cases a.cases wide (arguments-fit width args fit.below) refl)
      (cut_fits (awaited_count globals into) f b.cases (subst (λ n. awaited_count globals into ≤ n) (sym k.leaves) (awaited-there fit.callee into fit.returns)) k.fits refl)) refl

  pub leaf-fits : (s : Statement) → EdgeFits program width s → IsFit (leaf_of width globals known s)
  leaf-fits (Guard e) fit = guard_fits width (lists_of e).truth.cases (map (with_posts (columns_of width)) (lists_of e).truth.cases) (truth_covered width e (lists_of e).truth.cases (lists_of e).truth.cases fit.below refl refl) refl
  leaf-fits (Set col e) fit = set_fits width col e (map (set_case width col) (lists_of e).value.cases) fit.below refl
  leaf-fits (Any col) fit = any_fits width col (any_case width col ∷ []) refl
  leaf-fits (Call proc args into) fit = go (slice_get known proc) refl
    where
      go : (o : Option (Option Transition)) → slice_get known proc ≡ o → IsFit (known_call width globals args into o)
      go None e = refl
      go (Some None) e = refl
      go (Some (Some f)) e = call-fits proc args into f fit e
  leaf-fits (Check number e) fit = absurd fit
  leaf-fits (If e a b) fit = absurd fit
  leaf-fits (Loop a e b d first) fit = absurd fit
  leaf-fits Break fit = absurd fit
  leaf-fits Continue fit = absurd fit
  leaf-fits Return fit = absurd fit

-- ---- the graph of a procedure

module _ (program : Program) (proc : ℕ) (p : Proc) (known : List (Option Transition)) (is : IsProcOf program proc p) (formed : IsWellFormed program) (are : AreKnown program known) where
  wide-enough : length program.globals ≤ width_of program p
  wide-enough = omega arith

  act-there : (k : ℕ) (way : Arc) → slice_get (own_graph p).arcs k ≡ Some way → IsActOf program proc way.act
  act-there k way e = record { place = k; way = way; is = ap (λ (f : FlowGraph). slice_get f.arcs k) (graph-is program proc p known is) ∙ e; does = refl }

  pub leaves-fit : AllByRecursion IsFit (subject_of program p known).leaves
  leaves-fit =
      each-map (λ (way : Arc). IsFit (arc_leaf program p known way)) IsFit (arc_leaf program p known) (λ way h. h) (own_graph p).arcs
      (each-got (λ (way : Arc). IsFit (arc_leaf program p known way)) (own_graph p).arcs
      (λ k way e. leaf-fits program (width_of program p) wide-enough known are way.act (act-fits program proc p way.act formed is (act-there k way e))))

  pub links-inside : IsGraph (own_graph p).nodes (subject_of program p known).links
  links-inside =
      All-map (λ (link : Link). (link.from < (own_graph p).nodes) × (link.to < (own_graph p).nodes)) link_of (own_graph p).arcs
      (λ k d lt. arcs_within (code_of p.body) k (get_or (own_graph p).arcs k d) (slice_get-get_or (own_graph p).arcs k d lt))

  pub graph-evaluated : (source : ℕ) → source < (own_graph p).nodes → IsEvaluated (graph_by (subject_of program p known)) source
  graph-evaluated source lt = is-evaluated program proc p known is formed are leaves-fit links-inside source lt

  pub leaves-canonical : HaveCanonicalLeaves (graph_by (subject_of program p known))
  leaves-canonical =
      each-map (λ (way : Arc). Unit {0}) (λ (f : Transition). HaveCanonicalRows f.cases) (arc_leaf program p known)
      (λ way any. rows-canonical (arc_leaf program p known way) (leaf-canonical (width_of program p) (length program.globals) known way.act))
      (own_graph p).arcs (each-got (λ (way : Arc). Unit {0}) (own_graph p).arcs (λ k way e. tt))
