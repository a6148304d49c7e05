use Rattle.std.proofs.Common.{arith}
use Rattle.point_steps.proofs.PointColumns.{columns-next}
use Rattle.point_steps.proofs.ends.columns_from.Goals as goal

pub loop-column-preserved : goal.loop-column-preserved
loop-column-preserved c = columns-next c.args.first c.loop-column.column c.loop-column.columns c.push.new.self (omega arith) c.loop-column.invariant c.in_ok-push.ensures.ok
