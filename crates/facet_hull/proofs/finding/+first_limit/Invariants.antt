use Rattle.std.proofs.Common.{length}
use Rattle.facet_hull.proofs.finding.+first_limit.Given as goal

abbrev pub decreases-first_limit : goal.decreases-first_limit
decreases-first_limit l = length l.losses.now
