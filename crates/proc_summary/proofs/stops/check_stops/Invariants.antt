use Rattle.std.proofs.Common.{◌≡◌, ◌++◌, map, drop}
use Rattle.proc_summary.specs.Parts.{check_stop}
use Rattle.proc_summary.proofs.stops.check_stops.Given as goal

abbrev pub invariant-loop-check : goal.invariant-loop-check
invariant-loop-check l = l.stops ++ map (check_stop l.columns l.cells) (drop l.check-index l.checks) ≡ map (check_stop l.columns l.cells) l.checks
