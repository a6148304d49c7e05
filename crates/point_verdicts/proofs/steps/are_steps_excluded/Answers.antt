use Rattle.std.proofs.Common.{ap}
use Rattle.posing.proofs.Following.{leads_none}
use Rattle.posing.proofs.Steps.{in_other_words}
use Rattle.point_steps.proofs.Carrying.{each-at}
use Rattle.point_rounds.specs.Closed.{IsStepOf}
use Rattle.point_verdicts.specs.Exclusions.{every, step_excluded}
use Rattle.point_verdicts.proofs.Every.{every-ends, every-halts, every-next, every-passes}
use Rattle.point_verdicts.proofs.steps.are_steps_excluded.Goals as goal

pub loop-from-init : goal.loop-from-init
loop-from-init g c = leads_none _ _ _ _

pub is_step_excluded-requires-clause-step : goal.is_step_excluded-requires-clause-step
is_step_excluded-requires-clause-step g c =
    each-at (IsStepOf c.args.assertion.program.now) c.as_slice-from-items.result.now c.args.assertion.round.now.steps c.loop-from.from-index c.from-item.result c.requires.assertion.steps c.as_slice-from-items.ensures c.loop-from-test.true c.from-item.is

pub returns-in_err-is_step_excluded : goal.returns-in_err-is_step_excluded
returns-in_err-is_step_excluded g c =
    let assertion = c.args.assertion in
    let test = step_excluded assertion.program.now assertion.round.now.table assertion.proc assertion.check c.args.falsity.now.cases in
    in_other_words (ap (every test) c.as_slice-from-items.ensures)
    (every-halts test _ _ c.loop-from.invariant c.loop-from-test.true c.from-item.is c.in_err-is_step_excluded.ensures c.from_residual.ensures.1)

pub returns-then-not-branch : goal.returns-then-not-branch
returns-then-not-branch g c =
    let assertion = c.args.assertion in
    let test = step_excluded assertion.program.now assertion.round.now.table assertion.proc assertion.check c.args.falsity.now.cases in
    in_other_words (ap (every test) c.as_slice-from-items.ensures)
    (every-ends test _ _ c.loop-from.invariant c.loop-from-test.true c.from-item.is c.in_ok-is_step_excluded.ensures c.if-not-branch.true)

pub loop-from-preserved : goal.loop-from-preserved
loop-from-preserved g c =
    let assertion = c.args.assertion in
    let test = step_excluded assertion.program.now assertion.round.now.table assertion.proc assertion.check c.args.falsity.now.cases in
    every-next test _ _ c.loop-from.invariant c.loop-from-test.true c.from-item.is c.in_ok-is_step_excluded.ensures c.if-not-branch.false

pub returns : goal.returns
returns g c =
    let assertion = c.args.assertion in
    let test = step_excluded assertion.program.now assertion.round.now.table assertion.proc assertion.check c.args.falsity.now.cases in
    in_other_words (ap (every test) c.as_slice-from-items.ensures) (every-passes test _ _ c.loop-from.invariant c.loop-from-test.false)
