use Rattle.point_search.specs.Shapes.{AreExitLists}
use Rattle.point_search.proofs.tables.exit_lists.Given as goal

abbrev pub invariant-loop-proc : goal.invariant-loop-proc
invariant-loop-proc l = AreExitLists l.source.program.now l.proc l.exits
