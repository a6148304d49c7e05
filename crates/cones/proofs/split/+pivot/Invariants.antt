use Rattle.std.proofs.Common.{length}
use Rattle.cones.proofs.split.+pivot.Given as goal

abbrev pub decreases-pivot : goal.decreases-pivot
decreases-pivot l = length l.lines.now
