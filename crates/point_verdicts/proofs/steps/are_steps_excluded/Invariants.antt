use Rattle.std.proofs.Common.{drop}
use Rattle.posing.specs.Follows.{Leads}
use Rattle.point_verdicts.specs.Exclusions.{every, step_excluded}
use Rattle.point_verdicts.proofs.steps.are_steps_excluded.Given as goal

abbrev pub invariant-loop-from : goal.invariant-loop-from
invariant-loop-from g l =
    Leads g.O.Oracle.asking l.initial.oracle l.oracle l.initial.log l.log (every (step_excluded l.assertion.program.now l.assertion.round.now.table l.assertion.proc l.assertion.check l.falsity.cases) l.from-items)
    (every (step_excluded l.assertion.program.now l.assertion.round.now.table l.assertion.proc l.assertion.check l.falsity.cases) (drop l.from-index l.from-items))
