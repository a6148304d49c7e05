use Rattle.std.proofs.Common.{◌≡◌, ◌++◌, drop}
use Rattle.std.specs.List.{flat_map}
use Rattle.report.specs.Text.{row_line}
use Rattle.report.proofs.text.ReportText.put_rows.Given as goal

abbrev pub invariant-loop-row : goal.invariant-loop-row
invariant-loop-row l =
    l.self ++ flat_map (row_line l.names) (drop l.row-index l.rows) ≡ l.fn.self ++ flat_map (row_line l.names) l.rows
