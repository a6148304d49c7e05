use Rattle.point_search.proofs.PlacedRows.{placed_at-more, placed_at-none}
use Rattle.point_search.proofs.tables.rows_at_each.Goals as goal

pub loop-node-init : goal.loop-node-init
loop-node-init c = placed_at-none c.args.columns _ c.new-lists.ensures

pub loop-node-preserved : goal.loop-node-preserved
loop-node-preserved c = placed_at-more c.loop-node.node-index c.args.columns c.loop-node.lists c.push.new.self _ c.in_ok-placed_rows.field-0 c.loop-node.invariant c.in_ok-placed_rows.ensures c.in_ok-push.ensures.ok
