use Rattle.std.proofs.Common.{◌≡◌, drop}
use Rattle.farkas_check.specs.Listing.{side_in, lines_in}
use Rattle.farkas_check.specs.Relations.{places}
use Rattle.farkas_check.specs.Steps.{unless_pivot}
use Rattle.farkas_check.specs.Stratum.{all_of, unit_test_at}
use Rattle.farkas_check.proofs.free.tested_each.Given as goal

abbrev pub invariant-loop-other : goal.invariant-loop-other
invariant-loop-other l =
    all_of (unless_pivot (lines_in l.basis) (unit_test_at (side_in l.basis l.columns) l.basis.spots.now l.place l.by)) (drop l.other (places l.basis.count))
    ≡ all_of (unless_pivot (lines_in l.basis) (unit_test_at (side_in l.basis l.columns) l.basis.spots.now l.place l.by)) (places l.basis.count)
