use Rattle.std.proofs.Common.{◌≡◌, ◌++◌, drop, map}
use Rattle.point_reports.specs.Blocks.{name_of, names_before}
use Rattle.point_reports.proofs.blocks.names_before.Given as goal

abbrev pub invariant-loop-column : goal.invariant-loop-column
invariant-loop-column l = l.names ++ map name_of (drop l.column-index l.columns) ≡ names_before l.program l.columns
