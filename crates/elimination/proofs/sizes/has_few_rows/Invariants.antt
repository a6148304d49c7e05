use Rattle.std.proofs.Common.{◌≡◌, ◌+◌, ◌≤◌, drop}
use Rattle.farkas_check.specs.Sizes.{row_count}
use Rattle.elimination.proofs.sizes.has_few_rows.Given as goal

abbrev pub invariant-loop-row : goal.invariant-loop-row
invariant-loop-row l = (l.count ≤ 12) × (l.count + row_count (drop l.row-index l.rows) ≡ row_count l.rows)
