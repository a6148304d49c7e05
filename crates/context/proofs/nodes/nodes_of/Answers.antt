use Rattle.std.proofs.Common.{arith}
use Rattle.context.proofs.Loops.{node-next}
use Rattle.context.proofs.PlaceColumns.{got}
use Rattle.context.proofs.nodes.nodes_of.Goals as goal

pub loop-number-preserved : goal.loop-number-preserved
loop-number-preserved c =
    let there = got c.args.program.now.procs c.loop-number.number (omega arith) in
    node-next c.args.program.now c.loop-number.number there.0 c.loop-number.nodes _ _ there.1 c.loop-number.invariant (c.in_ok-nodes.ensures there.0 there.1)
