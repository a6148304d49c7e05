use Rattle.point_search.specs.Shapes.{ArePointLists}
use Rattle.point_search.proofs.tables.point_lists.Given as goal

abbrev pub invariant-loop-proc : goal.invariant-loop-proc
invariant-loop-proc l = ArePointLists l.source.program.now l.proc l.points
