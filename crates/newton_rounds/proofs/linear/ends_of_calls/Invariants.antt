use Rattle.std.proofs.Common.{◌≡◌, ◌++◌, drop, map}
use Rattle.flow_graph.specs.FlowGraph.{Arc}
use Rattle.flow_graph.specs.Plain.{arc_of}
use Rattle.newton_rounds.specs.Members.{calls_in}
use Rattle.newton_rounds.proofs.linear.ends_of_calls.Given as goal

abbrev pub invariant-loop-edge : goal.invariant-loop-edge
invariant-loop-edge l =
    record {
      made : l.ends ++ map (λ (way : Arc). way.to) (calls_in l.fn.procs (map arc_of (drop l.edge-index l.edges))) ≡ map (λ (way : Arc). way.to) (calls_in l.fn.procs (map arc_of l.edges));
    }
