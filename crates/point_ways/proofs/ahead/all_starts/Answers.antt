use Rattle.std.proofs.Common.{◌<◌, ℕ, List, map, take, length, sym, ap, subst, ◌∙◌}
use Rattle.flow_graph.specs.FlowGraph.{Arc}
use Rattle.flow_graph.specs.Plain.{arc_of}
use Rattle.point_induction.proofs.HeadMarks.{arcs-more, inside-at}
use Rattle.point_ways.specs.Parts.{all_starts}
use Rattle.point_ways.proofs.NodeMarks.{length-starts, starts-next, starts-none}
use Rattle.point_ways.proofs.ahead.all_starts.Goals as goal

pub loop-edge-init : goal.loop-edge-init
loop-edge-init c = c.in_ok-starts.ensures ∙ starts-none 0 c.args.graph.now.nodes

pub with_start-requires : goal.with_start-requires
with_start-requires c =
    let edges = c.as_slice-edges.result.now in
    let place = c.loop-edge.edge-index in
    let nodes = c.args.graph.now.nodes in
    let inside = inside-at c.args.graph.now edges place c.edge-item.result c.requires c.as_slice-edges.ensures c.loop-edge-test.true c.edge-item.is in
    subst (λ n. c.edge-item.result.to < n) (sym (ap (λ (starts : List (List ℕ)). length starts) c.loop-edge.invariant ∙ length-starts (map arc_of (take place edges)) nodes)) inside.1

pub loop-edge-preserved : goal.loop-edge-preserved
loop-edge-preserved c =
    let edges = c.as_slice-edges.result.now in
    let place = c.loop-edge.edge-index in
    let edge = c.edge-item.result in
    let nodes = c.args.graph.now.nodes in
    let inside = inside-at c.args.graph.now edges place edge c.requires c.as_slice-edges.ensures c.loop-edge-test.true c.edge-item.is in
    starts-next (map arc_of (take place edges)) (arc_of edge) nodes c.loop-edge.starts c.in_ok-starts-2.starts inside.1 c.loop-edge.invariant c.in_ok-starts-2.ensures
    ∙ ap (λ (arcs : List Arc). all_starts arcs nodes) (sym (arcs-more edges place edge c.loop-edge-test.true c.edge-item.is))
