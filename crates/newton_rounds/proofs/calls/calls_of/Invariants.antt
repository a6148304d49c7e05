use Rattle.std.proofs.Common.{◌≡◌, ◌++◌, map, drop}
use Rattle.std.specs.List.{flat_map}
use Rattle.flow_graph.specs.FlowGraph.{Arc}
use Rattle.flow_graph.specs.Plain.{arc_of}
use Rattle.newton_rounds.specs.Members.{call_by}
use Rattle.newton_rounds.specs.Shapes.{plain_call}
use Rattle.newton_rounds.proofs.calls.calls_of.Given as goal

abbrev pub invariant-loop-edge : goal.invariant-loop-edge
invariant-loop-edge l =
    map plain_call l.calls ++ flat_map (λ (way : Arc). call_by l.procs l.caller way way.act) (map arc_of (drop l.edge-index l.edges))
    ≡ flat_map (λ (way : Arc). call_by l.procs l.caller way way.act) (map arc_of l.edges)
