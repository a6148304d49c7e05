use Rattle.std.proofs.Common.{◌≡◌, ◌+◌, ◌≤◌, drop}
use Rattle.farkas_check.specs.Sizes.{row_count}
use Rattle.facet_hull.proofs.finding.has_many_rows.Given as goal

abbrev pub invariant-loop-row : goal.invariant-loop-row
invariant-loop-row l = (l.count ≤ 6) × (l.count + row_count (drop l.row-index l.rows) ≡ row_count l.rows)
