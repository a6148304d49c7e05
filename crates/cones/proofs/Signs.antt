-- The sign turned by a product with -1.
use Rattle.std.proofs.Common.{◌≡◌, arith, ℤ, negsuc, ◌*ℤ◌}
use Rattle.std.specs.Prelude.{neg_ℤ}
use Rattle.std.proofs.lemmas.Int.{ints}

pub minus : (z : ℤ) → z *ℤ negsuc 0 ≡ neg_ℤ z
minus z = omega (arith, ints)
