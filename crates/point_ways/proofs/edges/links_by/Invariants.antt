use Rattle.std.proofs.Common.{◌≡◌, ◌++◌, map, drop}
use Rattle.point_ways.specs.Parts.{end_link, marked_edges}
use Rattle.point_ways.proofs.edges.links_by.Given as goal

-- those so far, and then the rest
abbrev pub invariant-loop-edge : goal.invariant-loop-edge
invariant-loop-edge l = l.links ++ map (end_link l.ends) (marked_edges l.ahead (drop l.edge-index l.edges)) ≡ map (end_link l.ends) (marked_edges l.ahead l.edges)
