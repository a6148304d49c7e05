use Rattle.std.proofs.Common.{◌≡◌, ◌++◌, drop}
use Rattle.point_reports.specs.Blocks.{rows_at_loops}
use Rattle.point_reports.proofs.blocks.add_loops.Given as goal

abbrev pub invariant-loop-head : goal.invariant-loop-head
invariant-loop-head l =
    l.told ++ rows_at_loops l.at.program.now l.table l.at.number l.at.proc.now l.number (drop l.head-index l.at.heads.now)
    ≡ l.initial.told ++ rows_at_loops l.at.program.now l.table l.at.number l.at.proc.now 1 l.at.heads.now
