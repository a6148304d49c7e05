use Rattle.std.proofs.Common.{◌≡◌, ◌++◌, drop}
use Rattle.leaf_cases.specs.Guard.{columns_of}
use Rattle.point_rows.proofs.exits.pair_posts.Given as goal

abbrev pub invariant-loop-post : goal.invariant-loop-post
invariant-loop-post l = l.pair ++ drop l.post-index l.posts ≡ columns_of l.from ++ l.posts
