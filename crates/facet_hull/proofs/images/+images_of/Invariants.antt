use Rattle.std.proofs.Common.{length}
use Rattle.facet_hull.proofs.images.+images_of.Given as goal

abbrev pub decreases-images_of : goal.decreases-images_of
decreases-images_of l = length l.cases.now
