use Rattle.std.proofs.Common.{◌≡◌, ◌++◌, drop}
use Rattle.transition_formula.specs.Posts.{entries_at}
use Rattle.transition_formula.proofs.posts.entries_at.Given as goal

-- those so far, and then the rest
abbrev pub invariant-loop-place : goal.invariant-loop-place
invariant-loop-place l = l.made ++ entries_at (drop l.place-index l.places) ≡ entries_at l.places
