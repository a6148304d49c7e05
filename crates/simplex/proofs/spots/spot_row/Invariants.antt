use Rattle.std.proofs.Common.{◌≡◌}
use Rattle.simplex.specs.Spots.{entries_to}
use Rattle.simplex.proofs.spots.spot_row.Given as goal

abbrev pub invariant-loop-unknown : goal.invariant-loop-unknown
invariant-loop-unknown l = l.made ≡ entries_to l.line l.unknown
