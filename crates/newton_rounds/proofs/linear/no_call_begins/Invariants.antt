use Rattle.std.proofs.Common.{◌≡◌, drop, map, not}
use Rattle.std.specs.List.{list_all}
use Rattle.flow_graph.specs.FlowGraph.{Arc}
use Rattle.flow_graph.specs.Plain.{arc_of}
use Rattle.newton_rounds.specs.Members.{calls_in}
use Rattle.newton_rounds.specs.Reached.{is_marked}
use Rattle.newton_rounds.proofs.linear.no_call_begins.Given as goal

abbrev pub invariant-loop-edge : goal.invariant-loop-edge
invariant-loop-edge l =
    record {
      left : list_all (λ (way : Arc). not (is_marked l.fn.marks way.from)) (calls_in l.fn.procs (map arc_of (drop l.edge-index l.edges))) ≡ list_all (λ (way : Arc). not (is_marked l.fn.marks way.from)) (calls_in l.fn.procs (map arc_of l.edges));
    }
