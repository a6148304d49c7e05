use Rattle.std.proofs.Common.{◌≡◌}
use Rattle.polyhedra.specs.Tables.{table_of}
use Rattle.polyhedra.proofs.changes.moves_of.Given as goal

abbrev pub invariant-loop-v : goal.invariant-loop-v
invariant-loop-v l = l.moves ≡ table_of l.one l.v l.case
