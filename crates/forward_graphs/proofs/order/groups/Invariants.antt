use Rattle.std.proofs.Common.{◌≡◌, take}
use Rattle.forward_graphs.specs.Order.{groups}
use Rattle.forward_graphs.proofs.order.groups.Given as goal

abbrev pub invariant-loop-number : goal.invariant-loop-number
invariant-loop-number l = l.made ≡ groups l.nodes l.steps l.end (take l.number-index l.numbers)
