use Rattle.std.proofs.Common.{drop}
use Rattle.posing.specs.Follows.{Leads}
use Rattle.posing.specs.Posing.{each}
use Rattle.point_rounds.specs.Rounds.{fallen_rows, with_step}
use Rattle.point_rounds.proofs.falling.fallen_rows.Given as goal

abbrev pub invariant-loop-from : goal.invariant-loop-from
invariant-loop-from g l =
    Leads g.O.Oracle.asking l.initial.oracle l.oracle l.initial.log l.log (fallen_rows l.source.program.now l.table l.steps) (each (with_step l.source.program.now l.table) l.fell (drop l.from-index l.steps))
