use Rattle.std.proofs.Common.{◌≡◌, ◌++◌, drop}
use Rattle.point_verdicts.proofs.arrivals.copies.Given as goal

abbrev pub invariant-loop-post : goal.invariant-loop-post
invariant-loop-post l = l.made ++ drop l.post-index l.posts ≡ l.posts
