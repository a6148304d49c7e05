use Rattle.std.specs.Prelude.{not}
use Rattle.std.specs.List.{count_by}
use Rattle.flow_graph.specs.Turns.{stage_of}
use Rattle.flow_graph.proofs.Orders.{Ordered}
use Rattle.flow_graph.proofs.turns.groups_in_order.Given as goal

abbrev pub invariant-loop-first : goal.invariant-loop-first
invariant-loop-first l = Ordered l.program l.plan (stage_of l.order) l.groups

abbrev pub decreases-loop-first : goal.decreases-loop-first
decreases-loop-first l = count_by not l.order.come.items
