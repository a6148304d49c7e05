use Rattle.std.proofs.Common.{◌≡◌, ◌≤◌, drop}
use Rattle.farkas_check.specs.Listing.{side_in, lines_in}
use Rattle.farkas_check.specs.Relations.{places, free_places}
use Rattle.farkas_check.specs.Steps.{units_from}
use Rattle.farkas_check.specs.Stratum.{tested_unit}
use Rattle.farkas_check.proofs.free.tested_units.Given as goal

abbrev pub invariant-loop-place : goal.invariant-loop-place
invariant-loop-place l =
    (units_from (lines_in l.basis) (tested_unit (side_in l.basis l.columns) l.basis.spots.now (free_places (lines_in l.basis) l.basis.count)) l.free l.next (drop l.place (places l.basis.count))
    ≡ units_from (lines_in l.basis) (tested_unit (side_in l.basis l.columns) l.basis.spots.now (free_places (lines_in l.basis) l.basis.count)) l.free 0 (places l.basis.count))
    × (l.next ≤ l.place)
