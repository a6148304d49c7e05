-- The assertion at its place in the graph that was made, and how many columns its states have.
use Rattle.std.proofs.Common.{◌≡◌, ℕ, ◌<◌, ◌≤◌, length, get_or, List, Some, refl, sym, ap, subst, ◌∙◌}
use Rattle.std.specs.Prelude.{slice_get}
use Rattle.std.proofs.lemmas.Option.{slice_get_read}
use Rattle.syntax_tree.specs.declared.program.Proc.{Proc}
use Rattle.syntax_tree.specs.declared.program.Program.{Program}
use Rattle.syntax_tree.specs.Term.{term_of}
use Rattle.syntax_tree.specs.WellFormed.{IsWellFormed}
use Rattle.vocabularies.specs.Procs.{IsProcOf}
use Rattle.flow_graph.specs.declared.parts.CheckNode.{CheckNode}
use Rattle.flow_graph.specs.FlowGraph.{CheckPlace}
use Rattle.leaf_cases.specs.Conditions.{columns_at, columns_in}
use Rattle.proc_summary.specs.Subject.{own_graph}
use Rattle.context.specs.Ends.{IsCondition}
use Rattle.context.proofs.CheckPlaces.{cond-fits, cond-is}
use Rattle.context.proofs.PlaceColumns.{got}
use Rattle.point_steps.proofs.OutFits.{narrow-width}
use Rattle.point_verdicts.specs.declared.assertion.PointAssertion.{PointAssertion}
use Rattle.point_verdicts.specs.Claims.{IsPointAssertion}

-- the states of a procedure of a well-formed program have few columns
pub columns-narrow : (program : Program) (proc : ℕ) → IsWellFormed program → proc < length program.procs → columns_at program proc ≤ 63
columns-narrow program proc formed lt =
    let there = got program.procs proc lt in
    subst (λ n. n ≤ 63) (sym (ap (columns_in program) there.1)) (narrow-width program proc there.0 formed there.1)

-- what was read at the place of the assertion
module _ (assertion : PointAssertion) (is : IsPointAssertion assertion) (checks : List CheckNode) (x : CheckNode) (same : checks ≡ assertion.graph.now.checks) (read : x ≡ get_or checks assertion.check x) where
  pub check-below : assertion.check < length checks
  check-below = subst (λ l. assertion.check < length l) (sym same) is.check

  read-at : slice_get assertion.graph.now.checks assertion.check ≡ Some x
  read-at = ap (λ l. slice_get l assertion.check) (sym same) ∙ slice_get_read checks (length checks) assertion.check x refl check-below read

  pub read-condition : IsCondition (columns_at assertion.program.now assertion.proc) (term_of x.cond)
  read-condition =
      let program = assertion.program.now in
      let there = got program.procs assertion.proc is.procedure in
      subst (λ n. IsCondition n (term_of x.cond)) (sym (ap (columns_in program) there.1))
      (cond-fits program assertion.proc there.0 there.1 assertion.graph.now is.graph.same assertion.check x is.formed read-at)

  pub read-is : (p : Proc) (at : CheckPlace) → IsProcOf assertion.program.now assertion.proc p → slice_get (own_graph p).checks assertion.check ≡ Some at → term_of x.cond ≡ at.cond
  read-is p at is_p is_at = cond-is assertion.program.now assertion.proc p is_p assertion.graph.now is.graph.same assertion.check x at read-at is_at
