use Rattle.std.proofs.Common.{◌∙◌}
use Rattle.flow_graph.proofs.GroupOrders.{none_came}
use Rattle.flow_graph.proofs.turns.in_order.Goals as goal

pub groups_in_order-requires-clause-none : goal.groups_in_order-requires-clause-none
groups_in_order-requires-clause-none c = none_came c.settle_all.new.self.come.items c.args.count (c.in_ok-settle_all.ensures.1 ∙ (λ i. (c.in_ok-order.ensures i).come))
