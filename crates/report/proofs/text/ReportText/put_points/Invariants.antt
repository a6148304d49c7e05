use Rattle.std.proofs.Common.{◌≡◌, ◌++◌, drop}
use Rattle.std.specs.List.{flat_map}
use Rattle.report.specs.Points.{point_rows_text}
use Rattle.report.proofs.text.ReportText.put_points.Given as goal

abbrev pub invariant-loop-point : goal.invariant-loop-point
invariant-loop-point l =
    l.self ++ flat_map point_rows_text (drop l.point-index l.points) ≡ l.fn.self ++ flat_map point_rows_text l.points
