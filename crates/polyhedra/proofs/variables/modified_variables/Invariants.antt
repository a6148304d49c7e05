use Rattle.std.proofs.Common.{◌≡◌}
use Rattle.std.specs.List.{filter, range_with_len}
use Rattle.polyhedra.specs.Tables.{is_moved_in}
use Rattle.polyhedra.proofs.variables.modified_variables.Given as goal

abbrev pub invariant-loop-v : goal.invariant-loop-v
invariant-loop-v l = l.variables ≡ filter (is_moved_in l.tables) (range_with_len 0 l.v)
