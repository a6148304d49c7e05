use Rattle.std.proofs.Common.{◌≡◌, drop}
use Rattle.cones.specs.InBits as in_bits
use Rattle.cones.proofs.tangents.directions_to.Given as goal

abbrev pub invariant-loop-other : goal.invariant-loop-other
invariant-loop-other l =
    in_bits.behind l.made (in_bits.each (in_bits.direction l.point) (drop l.other-index l.points)) ≡ in_bits.each (in_bits.direction l.point) l.points
