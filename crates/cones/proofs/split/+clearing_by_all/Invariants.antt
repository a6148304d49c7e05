use Rattle.std.proofs.Common.{length}
use Rattle.cones.proofs.split.+clearing_by_all.Given as goal

abbrev pub decreases-clearing_by_all : goal.decreases-clearing_by_all
decreases-clearing_by_all l = length l.lines.now
