use Rattle.std.proofs.Common.{drop}
use Rattle.posing.specs.Follows.{Leads}
use Rattle.posing.specs.Posing.{each}
use Rattle.polyhedra.specs.Bounds.{rows_with_entry_bound}
use Rattle.polyhedra.specs.Kept.{AreOver}
use Rattle.polyhedra.proofs.bounds.bounds_before.Given as goal

abbrev pub invariant-loop-d : goal.invariant-loop-d
invariant-loop-d g l =
    (Leads g.O.Oracle.asking l.initial.oracle l.oracle l.initial.log l.log (each (rows_with_entry_bound l.cases) l.fn.rows l.directions) (each (rows_with_entry_bound l.cases) l.made (drop l.d-index l.directions)))
    × AreOver l.cases l.goals
