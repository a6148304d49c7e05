use Rattle.std.proofs.Common.{◌≡◌, ◌++◌, drop, map}
use Rattle.flow_graph.specs.Search.{group_in}
use Rattle.flow_graph.proofs.components.groups_in.Given as goal

abbrev pub invariant-loop-mark : goal.invariant-loop-mark
invariant-loop-mark l = l.groups ++ map group_in (drop l.mark-index l.marks) ≡ map group_in l.marks
