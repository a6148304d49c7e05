use Rattle.std.proofs.Common.{length}
use Rattle.cones.proofs.split.+is_zero_on.Given as goal

abbrev pub decreases-is_zero_on : goal.decreases-is_zero_on
decreases-is_zero_on l = length l.vectors.now
