use Rattle.std.proofs.Common.{◌≡◌, ◌+◌, length}
use Rattle.linear_terms.specs.Polynomial.{Terms, IsCanonical}
use Rattle.linear_terms.specs.Operations.{put_all}
use Rattle.linear_terms.proofs.Steps.{with_front}
use Rattle.linear_terms.proofs.sums.merged_terms.Given as goal

-- what is made so far before the sum of what is left
pub record SoFar (made left right all_left all_right : Terms) : Type 0 where
  pub same : with_front made (put_all left right) ≡ put_all all_left all_right
  pub left_canonical : IsCanonical left
  pub right_canonical : IsCanonical right

abbrev pub invariant-loop-first : goal.invariant-loop-first
invariant-loop-first l = SoFar l.made l.left l.right l.fn.left l.fn.right

abbrev pub decreases-loop-first : goal.decreases-loop-first
decreases-loop-first l = length l.left + length l.right
