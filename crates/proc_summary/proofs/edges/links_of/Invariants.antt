use Rattle.std.proofs.Common.{◌≡◌, ◌++◌, map, drop}
use Rattle.proc_summary.specs.Parts.{edge_link}
use Rattle.proc_summary.proofs.edges.links_of.Given as goal

abbrev pub invariant-loop-edge : goal.invariant-loop-edge
invariant-loop-edge l = l.links ++ map edge_link (drop l.edge-index l.edges) ≡ map edge_link l.edges
