use Rattle.std.proofs.Common.{◌≡◌, length}
use Rattle.linear_terms.specs.Expressions.{weighted_sum, sum_from}
use Rattle.linear_terms.proofs.expressions.weighted_sum.Given as goal

-- what is made so far, and then the rest
abbrev pub invariant-loop-number : goal.invariant-loop-number
invariant-loop-number l = sum_from l.total l.numbers l.polys ≡ weighted_sum l.fn.numbers l.fn.polys

abbrev pub decreases-loop-number : goal.decreases-loop-number
decreases-loop-number l = length l.numbers
