use Rattle.std.proofs.Common.{◌≡◌, drop}
use Rattle.cones.specs.InBits as in_bits
use Rattle.cones.proofs.Making.{put_made}
use Rattle.cones.proofs.tangents.facets.Given as goal

abbrev pub invariant-loop-point : goal.invariant-loop-point
invariant-loop-point l =
    put_made l.found.keys (in_bits.all_of (in_bits.facets_at l.basis l.points l.rays) (drop l.point-index l.points)) ≡ in_bits.facets l.basis l.points l.rays
