use Rattle.std.proofs.Common.{◌≡◌, drop, take}
use Rattle.cones.specs.InBits as in_bits
use Rattle.cones.proofs.split.pivots.Given as goal

abbrev pub invariant-loop-place : goal.invariant-loop-place
invariant-loop-place l =
    in_bits.behind l.made (in_bits.pivots_behind l.lines (take l.place l.vectors) (drop l.place l.vectors)) ≡ in_bits.pivots l.lines l.vectors
