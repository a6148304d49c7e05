use Rattle.std.proofs.Common.{◌≡◌, take}
use Rattle.kept_groups.proofs.copies.stop_copies.Given as goal

abbrev pub invariant-loop-stop : goal.invariant-loop-stop
invariant-loop-stop l = l.copies ≡ take l.stop-index l.stops
