use Rattle.std.proofs.Common.{length}
use Rattle.elimination.proofs.null_vectors.+poly_from.Given as goal

abbrev pub decreases-poly_from : goal.decreases-poly_from
decreases-poly_from l = length l.numbers.now
