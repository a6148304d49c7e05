use Rattle.std.proofs.Common.{◌≡◌, ◌++◌, drop}
use Rattle.point_reports.specs.Blocks.{rows_from, rows_of_table}
use Rattle.point_reports.proofs.blocks.rows_of_table.Given as goal

abbrev pub invariant-loop-place : goal.invariant-loop-place
invariant-loop-place l = l.told ++ rows_from l.program l.table l.place (drop l.place l.procs) ≡ rows_of_table l.program l.table
