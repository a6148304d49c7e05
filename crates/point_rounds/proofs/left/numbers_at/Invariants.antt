use Rattle.std.proofs.Common.{◌≡◌, ◌++◌, drop}
use Rattle.point_rounds.specs.Parts.{numbers_at}
use Rattle.point_rounds.proofs.left.numbers_at.Given as goal

abbrev pub invariant-loop-row : goal.invariant-loop-row
invariant-loop-row l = l.numbers ++ numbers_at l.place (drop l.row-index l.fallen) ≡ numbers_at l.place l.fallen
