use Rattle.std.proofs.Common.{◌≡◌, map, take}
use Rattle.std.specs.List.{range_with_len}
use Rattle.flow_graph.specs.Plain.{arc_of}
use Rattle.point_induction.specs.Points.{is_head}
use Rattle.point_induction.proofs.marks.head_marks.Given as goal

-- the marks of the heads by the edges gone over
abbrev pub invariant-loop-edge : goal.invariant-loop-edge
invariant-loop-edge l = l.marks.items ≡ map (is_head (map arc_of (take l.edge-index l.edges))) (range_with_len 0 l.graph.nodes)
