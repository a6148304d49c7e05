use Rattle.std.proofs.Common.{◌≡◌, take}
use Rattle.polyhedra.specs.Squash.{entries_of}
use Rattle.polyhedra.proofs.after.entries_of.Given as goal

abbrev pub invariant-loop-v : goal.invariant-loop-v
invariant-loop-v l = l.entries ≡ entries_of (take l.v-index l.variables)
