use Rattle.std.proofs.Common.{◌≡◌, drop}
use Rattle.cones.specs.InBits.{behind, all_of}
use Rattle.facet_hull.specs.InBits as in_bits
use Rattle.facet_hull.proofs.images.points_of.Given as goal

abbrev pub invariant-loop-v : goal.invariant-loop-v
invariant-loop-v l = behind l.points (all_of (in_bits.point_of l.columns l.terms) (drop l.v-index l.vectors)) ≡ all_of (in_bits.point_of l.columns l.terms) l.vectors
