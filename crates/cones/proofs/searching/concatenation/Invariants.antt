use Rattle.std.proofs.Common.{◌≡◌, ◌++◌}
use Rattle.std.specs.Vec.Iter.{into_iter_items}
use Rattle.cones.proofs.searching.concatenation.Given as goal

abbrev pub invariant-loop-v : goal.invariant-loop-v
invariant-loop-v l = l.made ++ into_iter_items l.v-iterator ≡ l.fn.first ++ l.fn.second
