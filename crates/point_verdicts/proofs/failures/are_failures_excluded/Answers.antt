use Rattle.std.proofs.Common.{ap}
use Rattle.posing.proofs.Following.{leads_none}
use Rattle.posing.proofs.Steps.{in_other_words}
use Rattle.point_steps.proofs.Carrying.{each-at}
use Rattle.point_verdicts.specs.Exclusions.{every, failure_excluded}
use Rattle.point_verdicts.specs.Parts.{IsFailure, only_case}
use Rattle.point_verdicts.proofs.Every.{every-ends, every-halts, every-next, every-passes}
use Rattle.point_verdicts.proofs.failures.are_failures_excluded.Goals as goal

pub loop-bad-init : goal.loop-bad-init
loop-bad-init g c = leads_none _ _ _ _

pub is_failure_excluded-requires-clause-bad : goal.is_failure_excluded-requires-clause-bad
is_failure_excluded-requires-clause-bad g c =
    each-at (IsFailure c.args.arriving.now.to) c.cases-bad-items.result.now c.args.falsity.now.cases c.loop-bad.bad-index c.bad-item.result c.requires.falsity.each c.cases-bad-items.ensures.cases c.loop-bad-test.true c.bad-item.is

pub returns-in_err-is_failure_excluded : goal.returns-in_err-is_failure_excluded
returns-in_err-is_failure_excluded g c =
    in_other_words (ap (every (failure_excluded (only_case c.args.arriving.now))) c.cases-bad-items.ensures.cases)
    (every-halts (failure_excluded (only_case c.args.arriving.now)) _ _ c.loop-bad.invariant c.loop-bad-test.true c.bad-item.is c.in_err-is_failure_excluded.ensures c.from_residual.ensures.1)

pub returns-then-not-branch : goal.returns-then-not-branch
returns-then-not-branch g c =
    in_other_words (ap (every (failure_excluded (only_case c.args.arriving.now))) c.cases-bad-items.ensures.cases)
    (every-ends (failure_excluded (only_case c.args.arriving.now)) _ _ c.loop-bad.invariant c.loop-bad-test.true c.bad-item.is c.in_ok-is_failure_excluded.ensures c.if-not-branch.true)

pub loop-bad-preserved : goal.loop-bad-preserved
loop-bad-preserved g c =
    every-next (failure_excluded (only_case c.args.arriving.now)) _ _ c.loop-bad.invariant c.loop-bad-test.true c.bad-item.is c.in_ok-is_failure_excluded.ensures c.if-not-branch.false

pub returns : goal.returns
returns g c =
    in_other_words (ap (every (failure_excluded (only_case c.args.arriving.now))) c.cases-bad-items.ensures.cases)
    (every-passes (failure_excluded (only_case c.args.arriving.now)) _ _ c.loop-bad.invariant c.loop-bad-test.false)
