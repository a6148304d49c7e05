use Rattle.std.proofs.Common.{length}
use Rattle.facet_hull.proofs.finding.+linear.Given as goal

abbrev pub decreases-linear : goal.decreases-linear
decreases-linear l = length l.numbers.now
