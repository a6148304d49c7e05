use Rattle.std.proofs.Common.{drop}
use Rattle.posing.specs.Follows.{Leads}
use Rattle.point_verdicts.specs.Exclusions.{every, failure_excluded}
use Rattle.point_verdicts.specs.Parts.{only_case}
use Rattle.point_verdicts.proofs.failures.are_failures_excluded.Given as goal

abbrev pub invariant-loop-bad : goal.invariant-loop-bad
invariant-loop-bad g l =
    Leads g.O.Oracle.asking l.initial.oracle l.oracle l.initial.log l.log (every (failure_excluded (only_case l.arriving)) l.bad-items)
    (every (failure_excluded (only_case l.arriving)) (drop l.bad-index l.bad-items))
