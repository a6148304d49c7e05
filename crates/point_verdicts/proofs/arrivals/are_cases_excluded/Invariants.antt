use Rattle.std.proofs.Common.{drop}
use Rattle.posing.specs.Follows.{Leads}
use Rattle.point_verdicts.specs.Exclusions.{case_excluded, every}
use Rattle.point_verdicts.proofs.arrivals.are_cases_excluded.Given as goal

abbrev pub invariant-loop-case : goal.invariant-loop-case
invariant-loop-case g l =
    Leads g.O.Oracle.asking l.initial.oracle l.oracle l.initial.log l.log (every (case_excluded l.falsity.from l.falsity.cases l.source) l.cases)
    (every (case_excluded l.falsity.from l.falsity.cases l.source) (drop l.case-index l.cases))
