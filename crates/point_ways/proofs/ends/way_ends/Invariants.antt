use Rattle.std.proofs.Common.{◌≡◌, map}
use Rattle.std.specs.List.{range_with_len}
use Rattle.flow_graph.specs.Plain.{plain}
use Rattle.point_ways.specs.Ways.{arrival_node, way_end}
use Rattle.point_ways.proofs.ends.way_ends.Given as goal

-- the arrival of the next head, and the ends of the nodes gone over
abbrev pub invariant-loop-node : goal.invariant-loop-node
invariant-loop-node l = record {
  next : l.arrival ≡ arrival_node (plain l.graph) l.node;
  made : l.ends ≡ map (way_end (plain l.graph)) (range_with_len 0 l.node);
}
