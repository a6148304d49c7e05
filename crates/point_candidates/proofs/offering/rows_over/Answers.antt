use Rattle.point_candidates.proofs.OverRows.{over-covered}
use Rattle.point_candidates.proofs.offering.rows_over.Goals as goal

pub loop-row-preserved-in-Continue-1 : goal.loop-row-preserved-in-Continue-1
loop-row-preserved-in-Continue-1 c = over-covered c.args.columns c.loop-row.kept c.push.new.self c.in-Some.row c.is_covered.result c.loop-row.invariant c.is_covered.ensures c.if-is_covered.true c.in_ok-push.ensures.ok
