use Rattle.std.proofs.Common.{◌≡◌, ◌++◌, drop}
use Rattle.leaf_cases.proofs.call.copies.Given as goal

abbrev pub invariant-loop-post : goal.invariant-loop-post
invariant-loop-post l = l.made ++ drop l.post-index l.posts ≡ l.posts
