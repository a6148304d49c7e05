use Rattle.std.proofs.Common.{◌≡◌, map, take}
use Rattle.polyhedra.specs.Squash.{change_after}
use Rattle.polyhedra.proofs.after.changes_of_some.Given as goal

abbrev pub invariant-loop-v : goal.invariant-loop-v
invariant-loop-v l = l.changes ≡ map (change_after l.one l.modified) (take l.v-index l.some)
