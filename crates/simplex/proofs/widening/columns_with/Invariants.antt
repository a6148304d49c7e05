use Rattle.std.proofs.Common.{◌+◌, length}
use Rattle.farkas_check.specs.Columns.{columns}
use Rattle.simplex.proofs.MergedColumns.{SoFar}
use Rattle.simplex.proofs.widening.columns_with.Given as goal

abbrev pub invariant-loop-column : goal.invariant-loop-column
invariant-loop-column l = SoFar l.made l.left l.right (columns l.rows l.terms)

abbrev pub decreases-loop-column : goal.decreases-loop-column
decreases-loop-column l = length l.left + length l.right
