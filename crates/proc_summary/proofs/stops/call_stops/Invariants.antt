use Rattle.std.proofs.Common.{◌≡◌, ◌++◌, drop}
use Rattle.std.specs.List.{flat_map}
use Rattle.proc_summary.specs.Parts.{call_stop}
use Rattle.proc_summary.proofs.stops.call_stops.Given as goal

abbrev pub invariant-loop-edge : goal.invariant-loop-edge
invariant-loop-edge l = l.stops ++ flat_map (call_stop l.columns l.cells) (drop l.edge-index l.edges) ≡ flat_map (call_stop l.columns l.cells) l.edges
