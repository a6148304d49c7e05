use Rattle.std.proofs.Common.{drop}
use Rattle.posing.specs.Follows.{Leads}
use Rattle.posing.specs.Posing.{each}
use Rattle.point_rounds.specs.Rounds.{with_case}
use Rattle.point_rounds.proofs.falling.with_each_case.Given as goal

abbrev pub invariant-loop-case : goal.invariant-loop-case
invariant-loop-case g l =
    Leads g.O.Oracle.asking l.initial.oracle l.oracle l.initial.log l.log (each (with_case l.ends.columns l.ends.source.now l.ends.place l.ends.rows.now) l.fn.fell l.cases)
    (each (with_case l.ends.columns l.ends.source.now l.ends.place l.ends.rows.now) l.all (drop l.case-index l.cases))
