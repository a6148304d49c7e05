use Rattle.std.proofs.Common.{◌≡◌, ◌∷◌, ◌++◌, map, drop}
use Rattle.proc_summary.specs.Flow.{stop_at}
use Rattle.proc_summary.proofs.stops.point_stops.Given as goal

abbrev pub invariant-loop-head : goal.invariant-loop-head
invariant-loop-head l = l.stops ++ map (stop_at l.columns l.cells) (drop l.head-index l.heads) ≡ map (stop_at l.columns l.cells) (0 ∷ l.heads)
