use Rattle.flow_graph.specs.Plans.{AreFilled}
use Rattle.flow_graph.proofs.planning.plan.Given as goal

abbrev pub invariant-loop-p : goal.invariant-loop-p
invariant-loop-p l = AreFilled l.calls l.fn.groups l.count l.p l.members.items l.rows.items
