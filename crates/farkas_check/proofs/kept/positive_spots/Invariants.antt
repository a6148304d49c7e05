use Rattle.std.proofs.Common.{All, take}
use Rattle.farkas_check.specs.Kept.{IsPositiveSpot}
use Rattle.farkas_check.proofs.kept.positive_spots.Given as goal

abbrev pub invariant-loop-spot : goal.invariant-loop-spot
invariant-loop-spot l = All IsPositiveSpot (take l.spot-index l.spots)
