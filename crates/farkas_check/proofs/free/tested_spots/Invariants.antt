use Rattle.std.proofs.Common.{◌≡◌, drop}
use Rattle.farkas_check.specs.Listing.{columns_in}
use Rattle.farkas_check.specs.Stratum.{all_of, tested_spot}
use Rattle.farkas_check.proofs.free.tested_spots.Given as goal

abbrev pub invariant-loop-spot : goal.invariant-loop-spot
invariant-loop-spot l =
    all_of (tested_spot (columns_in l.columns) l.cases) (drop l.spot-index l.spots) ≡ all_of (tested_spot (columns_in l.columns) l.cases) l.spots
