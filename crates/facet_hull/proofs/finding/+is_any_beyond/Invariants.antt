use Rattle.std.proofs.Common.{length}
use Rattle.facet_hull.proofs.finding.+is_any_beyond.Given as goal

abbrev pub decreases-is_any_beyond : goal.decreases-is_any_beyond
decreases-is_any_beyond l = length l.cases.now
