use Rattle.point_search.proofs.TableLists.{exits-more, exits-none}
use Rattle.point_search.proofs.tables.exit_lists.Goals as goal

pub loop-proc-init : goal.loop-proc-init
loop-proc-init c = exits-none c.args.source.program.now _ c.new-exits.ensures

pub loop-proc-preserved : goal.loop-proc-preserved
loop-proc-preserved c = exits-more c.args.source.program.now c.loop-proc.proc c.loop-proc.exits c.push.new.self c.in_ok-exit_list.field-0 c.loop-proc.invariant c.in_ok-exit_list.ensures c.in_ok-push.ensures.ok
