use Rattle.std.proofs.Common.{◌<◌, List, map, take, length, refl, sym, ap, ◌∙◌, arith}
use Rattle.std.specs.List.{range_with_len}
use Rattle.flow_graph.specs.FlowGraph.{Arc}
use Rattle.flow_graph.specs.Plain.{arc_of}
use Rattle.point_induction.specs.Points.{is_head}
use Rattle.point_induction.proofs.HeadMarks.{arcs-more, heads-kept, heads-marked, heads-none, inside-at}
use Rattle.point_induction.proofs.marks.head_marks.Goals as goal
use Rattle.point_induction.proofs.marks.head_marks.Goals.{then-edge, else-edge}

pub loop-edge-init : goal.loop-edge-init
loop-edge-init c = c.in_ok-marks.ensures ∙ heads-none 0 c.args.graph.now.nodes

pub loop-edge-preserved : goal.loop-edge-preserved
loop-edge-preserved c =
    let edges = c.as_slice-edges.result.now in
    let place = c.loop-edge.edge-index in
    let edge = c.edge-item.result in
    let nodes = c.args.graph.now.nodes in
    let lt : place < length edges = c.loop-edge-test.true in
    let more = arcs-more edges place edge lt c.edge-item.is in
    let inside = inside-at c.args.graph.now edges place edge c.requires c.as_slice-edges.ensures lt c.edge-item.is in
    elim c.if-edge.branch [
      | then-edge w ↦ rw w.marks-is
          (heads-marked (map arc_of (take place edges)) (arc_of edge) nodes c.loop-edge.marks.items _ (omega (arith, w.if-edge.true)) inside.1 c.loop-edge.invariant refl
          ∙ ap (λ (arcs : List Arc). map (is_head arcs) (range_with_len 0 nodes)) (sym more))
      | else-edge w ↦ rw w.marks-is
          (heads-kept (map arc_of (take place edges)) (arc_of edge) nodes c.loop-edge.marks.items (omega (arith, w.if-edge.false)) c.loop-edge.invariant
          ∙ ap (λ (arcs : List Arc). map (is_head arcs) (range_with_len 0 nodes)) (sym more))
    ]
