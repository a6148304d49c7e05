use Rattle.std.proofs.Common.{◌≡◌, length}
use Rattle.simplex.specs.Exchange.{behind}
use Rattle.simplex.specs.Spots.{sums_of}
use Rattle.simplex.proofs.values.sums_of.Given as goal

abbrev pub invariant-loop-one : goal.invariant-loop-one
invariant-loop-one l = behind l.made (sums_of l.left l.right) ≡ sums_of l.fn.left l.fn.right

abbrev pub decreases-loop-one : goal.decreases-loop-one
decreases-loop-one l = length l.left
