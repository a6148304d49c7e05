use Rattle.posing.proofs.Following.{leads_none}
use Rattle.point_steps.proofs.Carrying.{each-at}
use Rattle.std.proofs.Common.{refl}
use Rattle.point_verdicts.specs.Exclusions.{case_excluded}
use Rattle.point_verdicts.specs.Parts.{IsArrivingCase}
use Rattle.point_verdicts.proofs.Every.{every-ends, every-halts, every-next, every-passes}
use Rattle.point_verdicts.proofs.arrivals.are_cases_excluded.Goals as goal

pub loop-case-init : goal.loop-case-init
loop-case-init g c = leads_none _ _ _ _

pub is_case_excluded-requires-clause-case : goal.is_case_excluded-requires-clause-case
is_case_excluded-requires-clause-case g c =
    each-at (IsArrivingCase c.args.falsity.now.from) c.args.cases.now c.args.cases.now c.loop-case.case-index c.case-item.result c.requires.cases refl c.loop-case-test.true c.case-item.is

pub returns-in_err-is_case_excluded : goal.returns-in_err-is_case_excluded
returns-in_err-is_case_excluded g c =
    every-halts (case_excluded c.args.falsity.now.from c.args.falsity.now.cases c.args.source.now) _ _ c.loop-case.invariant c.loop-case-test.true c.case-item.is c.in_err-is_case_excluded.ensures c.from_residual.ensures.1

pub returns-then-not-branch : goal.returns-then-not-branch
returns-then-not-branch g c =
    every-ends (case_excluded c.args.falsity.now.from c.args.falsity.now.cases c.args.source.now) _ _ c.loop-case.invariant c.loop-case-test.true c.case-item.is c.in_ok-is_case_excluded.ensures c.if-not-branch.true

pub loop-case-preserved : goal.loop-case-preserved
loop-case-preserved g c =
    every-next (case_excluded c.args.falsity.now.from c.args.falsity.now.cases c.args.source.now) _ _ c.loop-case.invariant c.loop-case-test.true c.case-item.is c.in_ok-is_case_excluded.ensures c.if-not-branch.false

pub returns : goal.returns
returns g c =
    every-passes (case_excluded c.args.falsity.now.from c.args.falsity.now.cases c.args.source.now) _ _ c.loop-case.invariant c.loop-case-test.false
