use Rattle.std.proofs.Common.{◌≡◌, drop}
use Rattle.cones.specs.InBits.{behind}
use Rattle.facet_hull.specs.InBits as in_bits
use Rattle.facet_hull.proofs.images.image.Given as goal

abbrev pub invariant-loop-term : goal.invariant-loop-term
invariant-loop-term l = behind l.made (in_bits.image l.columns (drop l.term-index l.terms) l.v) ≡ in_bits.image l.columns l.terms l.v
