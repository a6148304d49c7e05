use Rattle.std.proofs.Common.{◌≡◌, length}
use Rattle.simplex.proofs.same_rows.are_terms.Given as goal

abbrev pub invariant-loop-term : goal.invariant-loop-term
invariant-loop-term l = l.left ≡ l.right → l.fn.own ≡ l.fn.terms

abbrev pub decreases-loop-term : goal.decreases-loop-term
decreases-loop-term l = length l.left
