use Rattle.leaf_cases.proofs.Graphs.{act_of_edge}
use Rattle.test_graphs.proofs.leaves.show_edges.Goals as goal

pub show_edge-requires-clause-edge : goal.show_edge-requires-clause-edge
show_edge-requires-clause-edge c =
    act_of_edge c.args.program.now 0 c.in-Ok.graph c.as_slice-edge_of-items.result.now c.loop-edge_of.edge_of-index c.edge_of-item.result c.in-Ok.ensures.exact c.as_slice-edge_of-items.ensures c.loop-edge_of-test.true c.edge_of-item.is
