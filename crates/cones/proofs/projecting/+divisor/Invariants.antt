use Rattle.std.proofs.Common.{length}
use Rattle.cones.proofs.projecting.+divisor.Given as goal

abbrev pub decreases-divisor : goal.decreases-divisor
decreases-divisor l = length l.numbers.now
