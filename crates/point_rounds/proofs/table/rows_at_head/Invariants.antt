use Rattle.std.proofs.Common.{◌≡◌, drop}
use Rattle.point_rounds.specs.Table.{list_at_node}
use Rattle.point_rounds.proofs.table.rows_at_head.Given as goal

abbrev pub invariant-loop-place : goal.invariant-loop-place
invariant-loop-place l = list_at_node l.node (drop l.place l.heads) (drop l.place l.lists) ≡ list_at_node l.node l.heads l.lists
