use Rattle.std.proofs.Common.{◌≡◌, ◌++◌, drop}
use Rattle.std.specs.List.{filter}
use Rattle.polyhedra.specs.Tables.{is_made_in}
use Rattle.polyhedra.proofs.variables.moving.Given as goal

abbrev pub invariant-loop-v : goal.invariant-loop-v
invariant-loop-v l = l.moving ++ filter (is_made_in l.tables) (drop l.v-index l.variables) ≡ filter (is_made_in l.tables) l.variables
