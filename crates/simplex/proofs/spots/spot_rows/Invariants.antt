use Rattle.std.proofs.Common.{◌≡◌, ◌++◌, drop, length}
use Rattle.simplex.specs.Spots.{spot_rows}
use Rattle.simplex.proofs.spots.spot_rows.Given as goal

abbrev pub invariant-loop-place : goal.invariant-loop-place
invariant-loop-place l = l.made ++ spot_rows l.count (length l.lines) l.place (drop l.place l.lines) ≡ spot_rows l.count (length l.lines) 0 l.lines
