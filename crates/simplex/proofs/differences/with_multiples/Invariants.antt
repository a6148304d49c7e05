use Rattle.std.proofs.Common.{◌≡◌, length}
use Rattle.simplex.specs.Differences.{with_multiples}
use Rattle.simplex.proofs.differences.with_multiples.Given as goal

-- what is made so far, and then the rest
abbrev pub invariant-loop-number : goal.invariant-loop-number
invariant-loop-number l = with_multiples l.total l.numbers l.polys ≡ with_multiples l.fn.first l.fn.numbers l.fn.polys

abbrev pub decreases-loop-number : goal.decreases-loop-number
decreases-loop-number l = length l.numbers
