use Rattle.std.proofs.Common.{◌≡◌, ◌++◌, drop}
use Rattle.std.specs.List.{flat_map}
use Rattle.flow_graph.specs.Plain.{arc_of}
use Rattle.point_steps.specs.Parts.{outs_by_edge}
use Rattle.point_steps.proofs.outs.call_outs.Given as goal

abbrev pub invariant-loop-edge : goal.invariant-loop-edge
invariant-loop-edge l = l.outs ++ flat_map (λ edge. outs_by_edge l.source (arc_of edge)) (drop l.edge-index l.edge-items) ≡ flat_map (λ edge. outs_by_edge l.source (arc_of edge)) l.source.graph.now.edges
