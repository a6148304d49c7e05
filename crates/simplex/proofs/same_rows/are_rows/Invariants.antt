use Rattle.std.proofs.Common.{◌≡◌, length}
use Rattle.simplex.proofs.same_rows.are_rows.Given as goal

abbrev pub invariant-loop-row : goal.invariant-loop-row
invariant-loop-row l = l.left ≡ l.right → l.fn.own ≡ l.fn.rows

abbrev pub decreases-loop-row : goal.decreases-loop-row
decreases-loop-row l = length l.left
