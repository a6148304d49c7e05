use Rattle.std.proofs.Common.{◌≡◌, map, take}
use Rattle.flow_graph.specs.Plain.{arc_of}
use Rattle.point_ways.specs.Parts.{all_starts}
use Rattle.point_ways.proofs.ahead.all_starts.Given as goal

-- those of the edges gone over
abbrev pub invariant-loop-edge : goal.invariant-loop-edge
invariant-loop-edge l = l.starts ≡ all_starts (map arc_of (take l.edge-index l.edges)) l.graph.nodes
