use Rattle.std.proofs.Common.{drop}
use Rattle.posing.specs.Follows.{Leads}
use Rattle.posing.specs.Posing.{each}
use Rattle.polyhedra.specs.Bounds.{bounded_change}
use Rattle.polyhedra.specs.Kept.{AreOver}
use Rattle.polyhedra.proofs.bounds.bounds_on_changes.Given as goal

abbrev pub invariant-loop-d : goal.invariant-loop-d
invariant-loop-d g l =
    (Leads g.O.Oracle.asking l.initial.oracle l.oracle l.initial.log l.log (each (bounded_change l.changes.cases.now l.changes.moved.now l.changes.turns) l.fn.rows l.directions) (each (bounded_change l.changes.cases.now l.changes.moved.now l.changes.turns) l.made (drop l.d-index l.directions)))
    × AreOver l.changes.cases.now l.goals
