use Rattle.std.proofs.Common.{◌≡◌, ◌++◌, drop, map}
use Rattle.flow_graph.specs.Plain.{arc_of}
use Rattle.proc_summary.specs.Subject.{link_of}
use Rattle.newton_rounds.proofs.linear.links_of.Given as goal

abbrev pub invariant-loop-edge : goal.invariant-loop-edge
invariant-loop-edge l =
    record { made : l.links ++ map link_of (map arc_of (drop l.edge-index l.edges)) ≡ map link_of (map arc_of l.edges) }
