use Rattle.std.proofs.Common.{◌≡◌, ◌++◌, length}
use Rattle.farkas_check.specs.Listing.{columns_in}
use Rattle.farkas_check.specs.Walk.{columns_after}
use Rattle.farkas_check.proofs.columns.column_list.Given as goal

abbrev pub invariant-loop-column : goal.invariant-loop-column
invariant-loop-column l = l.made ++ columns_after l.last (columns_in l.columns) ≡ columns_in l.columns

abbrev pub decreases-loop-column : goal.decreases-loop-column
decreases-loop-column l = length (columns_after l.last (columns_in l.columns))
