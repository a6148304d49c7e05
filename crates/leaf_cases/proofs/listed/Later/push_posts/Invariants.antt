use Rattle.std.proofs.Common.{◌≡◌, ◌+◌, ◌++◌, map, drop}
use Rattle.linear_terms.specs.Auxiliaries.{renumbered_polynomial}
use Rattle.leaf_cases.proofs.listed.Later.push_posts.Given as goal

abbrev pub invariant-loop-post : goal.invariant-loop-post
invariant-loop-post l = l.made ++ map (renumbered_polynomial (λ n. l.self.first + n)) (drop l.post-index l.posts) ≡ l.initial.made ++ map (renumbered_polynomial (λ n. l.self.first + n)) l.posts
