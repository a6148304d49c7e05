use Rattle.point_search.proofs.TableLists.{points-more, points-none}
use Rattle.point_search.proofs.tables.point_lists.Goals as goal

pub loop-proc-init : goal.loop-proc-init
loop-proc-init c = points-none c.args.source.program.now _ c.new-points.ensures

pub loop-proc-preserved : goal.loop-proc-preserved
loop-proc-preserved c = points-more c.args.source.program.now c.loop-proc.proc c.loop-proc.points c.push.new.self c.in_ok-lists_of.field-0 c.loop-proc.invariant c.in_ok-lists_of.ensures c.in_ok-push.ensures.ok
