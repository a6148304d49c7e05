-- An execution from `main` that fails at an assertion comes there by a step from a point whose rows
-- are true.
use Rattle.std.proofs.Common.{◌≡◌, ℕ, true, length, List, ◌∷◌, ◌++◌, Option, Some, refl, sym, ap, subst, ◌∙◌}
use Rattle.std.specs.Prelude.{◌==◌, slice_get}
use Rattle.std.proofs.lemmas.Bool.Decides.{Decides-eqb}
use Rattle.items.proofs.Each.{each-get}
use Rattle.syntax_tree.specs.declared.program.Proc.{Proc}
use Rattle.syntax_tree.specs.declared.program.Program.{Program}
use Rattle.syntax_tree.specs.Code.{Check, code_of}
use Rattle.syntax_tree.specs.Value.{State}
use Rattle.syntax_tree.specs.WellFormed.{IsWellFormed}
use Rattle.execution.specs.Execution.{Fails}
use Rattle.execution.specs.Machine.{Do}
use Rattle.execution.specs.Step.{IsFalseIn}
use Rattle.flow_graph.specs.FlowGraph.{CheckPlace, body_of, flow_of}
use Rattle.flow_graph.specs.Stack.{Beginning}
use Rattle.flow_graph.specs.Walks.{Stands, WalksTo}
use Rattle.flow_graph.proofs.StackChain.{failures_are_in_chains}
use Rattle.flow_graph.proofs.Theorems.{checks_are_walks}
use Rattle.transition_formula.specs.Transition.{Transition}
use Rattle.transition_formula.proofs.ColumnTests.{both_true}
use Rattle.leaf_cases.specs.Conditions.{columns_at, columns_in}
use Rattle.vocabularies.specs.Procs.{IsProcOf}
use Rattle.proc_summary.specs.Subject.{own_graph}
use Rattle.context.specs.Claims.{start_of_main}
use Rattle.context.proofs.AssertionPlaces.{one-place, some-one}
use Rattle.context.proofs.Soundness.{stands-top}
use Rattle.point_induction.specs.Induction.{PassageSaid}
use Rattle.point_rows.specs.Exits.{formulas_with_exits}
use Rattle.point_rows.specs.Reading.{AreTrueOf}
use Rattle.point_rows.proofs.ExitMeanings.{exit_rows-met}
use Rattle.point_steps.specs.Claims.{HasStep}
use Rattle.point_steps.specs.declared.target.Target.TheVariants as target
use Rattle.point_rounds.specs.declared.round.PointRound.{PointRound}
use Rattle.point_rounds.specs.declared.round.PointState.{PointState}
use Rattle.point_rounds.specs.declared.round.StepFrom.{StepFrom}
use Rattle.point_rounds.specs.Closed.{CoversState, HasState}
use Rattle.point_rounds.specs.Sayings.{sayings_of_table}
use Rattle.point_rounds.specs.Steps.{IsAtPoint}
use Rattle.point_rounds.specs.Table.{rows_at}
use Rattle.point_rounds.proofs.CoveredPassages.{passage-known, state-at}
use Rattle.point_rounds.proofs.WalkWidths.{walk-width}
use Rattle.point_verdicts.specs.Claims.{StandsAtPoints}
use Rattle.point_verdicts.specs.Exclusions.{is_check, leads_to_check}
use Rattle.point_verdicts.specs.Parts.{FailsByStep}

-- a step of a procedure to an assertion leads there
leads-there : (proc check : ℕ) (from : StepFrom) → from.proc ≡ proc → from.step.target ≡ target.Check check → leads_to_check proc check from ≡ true
leads-there proc check from same leads =
    both_true (from.proc == proc) (is_check check from.step.target) ((Decides-eqb from.proc proc).1 same) (ap (is_check check) leads ∙ (Decides-eqb check check).1 refl)

module _ (program : Program) (proc check : ℕ) (p : Proc) (at : CheckPlace) (known : List (Option Transition)) (states : List PointState) (round : PointRound) (is_p : IsProcOf program proc p)
    (is_at : slice_get (own_graph p).checks check ≡ Some at) (stands : StandsAtPoints program known states round) where
  abbrev all : List (Option Transition)
  all = formulas_with_exits known round.table.exits

  width-at : (globals args : State) (node : ℕ) (after : State) → WalksTo program proc globals args node after → length after ≡ columns_at program proc
  width-at globals args node after walk = walk-width program proc globals args node after p is_p walk ∙ sym (ap (columns_in program) is_p)

  -- an activation that passed a point on its way to the assertion
  passed-fails : (globals args final : State) → WalksTo program proc globals args at.node final → PassageSaid program (sayings_of_table program round.table) proc globals args at.node final → IsFalseIn at.cond final
      → FailsByStep program round proc check at.cond
  passed-fails globals args final walk passed fails =
      let here : IsAtPoint program proc passed.point globals args passed.before = record { is = passed.is; stands = passed.said.stands; walk = passed.said.walk } in
      let held : HasState states proc passed.point (passed.before ++ (globals ++ args)) = stands.reached proc passed.point globals args passed.before here in
      let cover : CoversState program all round.steps held.state = each-get (CoversState program all round.steps) states held.place held.state stands.covered held.is in
      let same : p ≡ cover.p = some-one (slice_get program.procs proc) p cover.p is_p (ap (slice_get program.procs) (sym held.proc_is) ∙ cover.is) in
      let there : slice_get (own_graph cover.p).checks check ≡ Some at = subst (λ q. slice_get (own_graph q).checks check ≡ Some at) same is_at in
      let state = state-at exit_rows-met program known round.table stands.calls states round.steps stands.reached proc passed.point globals args passed.before here held.state held.proc_is held.node_is held refl cover in
      let way =
      passage-known exit_rows-met program known round.table stands.calls states round.steps stands.reached proc passed.point globals args passed.before here held.state held.proc_is held.node_is held refl cover at.node final
      passed.passage in
      let has : HasStep cover.own (target.Check check) (passed.before ++ final) = cover.cover.checks passed.before (globals ++ args) final check at state there way in
      let found = cover.among has.place has.step has.is in
      let from : StepFrom = record { proc = held.state.proc; node = held.state.node; step = has.step } in
      record {
        before = passed.before;
        after = final;
        before_width = width-at globals args passed.point passed.before passed.said.walk;
        after_width = width-at globals args at.node final walk;
        place = found.0;
        from = from;
        is = found.1;
        leads = leads-there proc check from held.proc_is has.leads;
        holds = has.holds;
        rows = subst (λ n. AreTrueOf (rows_at program round.table proc n) passed.before) (sym held.node_is) passed.said.rows;
        fails = fails;
      }

  pub fails-by_step : IsWellFormed program → Fails program at.number → FailsByStep program round proc check at.cond
  fails-by_step formed fails =
      let found = failures_are_in_chains program at.number fails in
      let chain = found.chain in
      let top : Beginning = chain.top in
      let final : State = found.config.globals ++ chain.frame.own in
      let stood = stands-top program (start_of_main program) top found.config.globals chain.frame.items chain.frame chain.below chain.stands in
      let here : Stands program top.proc top.globals top.args (Do (Check at.number found.cond) ∷ found.rest) final = subst (λ items. Stands program top.proc top.globals top.args items final) found.next stood in
      let walk = (checks_are_walks program top.proc top.globals top.args at.number found.cond final).0 (found.rest, here) in
      let place : CheckPlace = walk.0 in
      let k : ℕ = walk.1 in
      let w : WalksTo program top.proc top.globals top.args place.node final = walk.5 in
      let is_place : slice_get (flow_of (code_of w.callee.body)).checks k ≡ Some place = subst (λ o. slice_get (flow_of (body_of o)).checks k ≡ Some place) w.is walk.2 in
      let one = one-place program formed top.proc proc k check w.callee p place at w.is is_p is_place is_at walk.3 in
      let same_p : w.callee ≡ p = some-one (slice_get program.procs proc) w.callee p (sym (ap (slice_get program.procs) one.0) ∙ w.is) is_p in
      let moved : slice_get (flow_of (code_of w.callee.body)).checks k ≡ slice_get (own_graph p).checks check = λ i. slice_get (flow_of (code_of (Proc.body (same_p i)))).checks (one.1 i) in
      let same : place ≡ at = some-one (slice_get (own_graph p).checks check) place at (sym moved ∙ is_place) is_at in
      let passed = stands.rows.passed found.config chain place.node final w in
      passed-fails top.globals top.args final
      (subst (λ q. WalksTo program q top.globals top.args at.node final) one.0 (subst (λ (c : CheckPlace). WalksTo program top.proc top.globals top.args c.node final) same w))
      (subst (λ q. PassageSaid program (sayings_of_table program round.table) q top.globals top.args at.node final) one.0
      (subst (λ (c : CheckPlace). PassageSaid program (sayings_of_table program round.table) top.proc top.globals top.args c.node final) same passed))
      (subst (λ c. IsFalseIn c final) (sym walk.4 ∙ ap (λ (c : CheckPlace). c.cond) same) found.fails)
