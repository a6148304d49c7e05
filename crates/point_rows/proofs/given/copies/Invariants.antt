use Rattle.std.proofs.Common.{◌≡◌, ◌++◌, drop}
use Rattle.point_rows.proofs.given.copies.Given as goal

abbrev pub invariant-loop-row : goal.invariant-loop-row
invariant-loop-row l = l.made ++ drop l.row-index l.rows ≡ l.rows
