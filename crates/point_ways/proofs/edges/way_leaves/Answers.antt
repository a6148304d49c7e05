use Rattle.std.proofs.Common.{map, ◌++◌}
use Rattle.std.specs.List.{flat_map}
use Rattle.proc_summary.specs.Parts.{edge_leaf, losses_in_edge}
use Rattle.proc_summary.proofs.CratesBelow.{act_of_edge}
use Rattle.point_ways.specs.Parts.{marked_edges, starts_marked}
use Rattle.point_ways.proofs.Choices.{flat_map-next, map-next}
use Rattle.point_ways.proofs.edges.way_leaves.Goals as goal

pub with_leaf-requires-clause-edge : goal.with_leaf-requires-clause-edge
with_leaf-requires-clause-edge c =
    act_of_edge c.args.own.program.now c.args.own.proc c.args.own.graph.now c.as_slice-edges.result.now c.loop-edge.edge-index c.edge-item.result c.requires.graph.same c.as_slice-edges.ensures
    c.loop-edge-test.true c.edge-item.is

pub loop-edge-preserved : goal.loop-edge-preserved
loop-edge-preserved c =
    let edges = c.as_slice-edges.result.now in
    let f = edge_leaf c.args.own.program.now c.args.own.proc c.args.own.known.now in
    let g = losses_in_edge c.args.own.program.now c.args.own.proc c.args.own.known.now in
    let test = starts_marked c.args.ahead.now in
    record {
      made = map-next f test edges c.loop-edge.edge-index c.edge-item.result c.loop-edge.leaves _ (map f (marked_edges c.args.ahead.now edges)) c.loop-edge-test.true c.edge-item.is
          c.loop-edge.invariant.made c.in_ok-leaves.ensures.made;
      noted = flat_map-next g test edges c.loop-edge.edge-index c.edge-item.result c.loop-edge.lost _ (c.args.lost.now ++ flat_map g (marked_edges c.args.ahead.now edges)) c.loop-edge-test.true
          c.edge-item.is c.loop-edge.invariant.noted c.in_ok-leaves.ensures.noted;
    }
