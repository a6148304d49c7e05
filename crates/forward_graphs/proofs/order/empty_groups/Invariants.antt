use Rattle.std.proofs.Common.{◌≡◌, [], replicate}
use Rattle.forward_graphs.proofs.order.empty_groups.Given as goal

abbrev pub invariant-loop-node : goal.invariant-loop-node
invariant-loop-node l = l.made ≡ replicate l._node []
