use Rattle.std.proofs.Common.{◌≡◌, drop}
use Rattle.cones.specs.InBits as in_bits
use Rattle.cones.proofs.vectors.combination.Given as goal

abbrev pub invariant-loop-i : goal.invariant-loop-i
invariant-loop-i l = in_bits.behind l.made (in_bits.combination l.a (drop l.i l.first) l.b (drop l.i l.second)) ≡ in_bits.combination l.a l.first l.b l.second
