use Rattle.std.proofs.Common.{◌≡◌, length}
use Rattle.recurrence.specs.Products.{sole}
use Rattle.recurrence.proofs.solving.sole.Given as goal

abbrev pub invariant-loop-v : goal.invariant-loop-v
invariant-loop-v l = sole l.variables l.numbers ≡ sole l.fn.variables l.fn.numbers

abbrev pub decreases-loop-v : goal.decreases-loop-v
decreases-loop-v l = length l.numbers
