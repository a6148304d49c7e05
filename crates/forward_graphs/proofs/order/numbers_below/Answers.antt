use Rattle.forward_graphs.proofs.Groups.{range-next}
use Rattle.forward_graphs.proofs.order.numbers_below.Goals as goal

pub loop-number-preserved : goal.loop-number-preserved
loop-number-preserved c = range-next c.loop-number.number c.loop-number.numbers c.push.new.self c.loop-number.invariant c.in_ok-push.ensures.ok
