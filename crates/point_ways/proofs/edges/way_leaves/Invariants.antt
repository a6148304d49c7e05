use Rattle.std.proofs.Common.{◌≡◌, ◌++◌, map, drop}
use Rattle.std.specs.List.{flat_map}
use Rattle.proc_summary.specs.Parts.{edge_leaf, losses_in_edge}
use Rattle.point_ways.specs.Parts.{marked_edges}
use Rattle.point_ways.proofs.edges.way_leaves.Given as goal

-- those so far, and then the rest
abbrev pub invariant-loop-edge : goal.invariant-loop-edge
invariant-loop-edge l = record {
  made :
      l.leaves ++ map (edge_leaf l.own.program.now l.own.proc l.own.known.now) (marked_edges l.ahead (drop l.edge-index l.edges))
      ≡ map (edge_leaf l.own.program.now l.own.proc l.own.known.now) (marked_edges l.ahead l.edges);
  noted :
      l.lost ++ flat_map (losses_in_edge l.own.program.now l.own.proc l.own.known.now) (marked_edges l.ahead (drop l.edge-index l.edges))
      ≡ l.initial.lost ++ flat_map (losses_in_edge l.own.program.now l.own.proc l.own.known.now) (marked_edges l.ahead l.edges);
}
