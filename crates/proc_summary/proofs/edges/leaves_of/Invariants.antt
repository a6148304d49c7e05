use Rattle.std.proofs.Common.{◌≡◌, ◌++◌, map, drop}
use Rattle.std.specs.List.{flat_map}
use Rattle.proc_summary.specs.Parts.{edge_leaf, losses_in_edge}
use Rattle.proc_summary.proofs.edges.leaves_of.Given as goal

-- those so far, and then the rest
abbrev pub invariant-loop-edge : goal.invariant-loop-edge
invariant-loop-edge l =
    record {
      made : l.leaves ++ map (edge_leaf l.program l.proc l.known) (drop l.edge-index l.edges) ≡ map (edge_leaf l.program l.proc l.known) l.edges;
      noted : l.lost ++ flat_map (losses_in_edge l.program l.proc l.known) (drop l.edge-index l.edges) ≡ l.initial.lost ++ flat_map (losses_in_edge l.program l.proc l.known) l.edges;
    }
