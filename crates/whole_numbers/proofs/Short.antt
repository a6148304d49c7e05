-- Products of numbers of 64 bits have 128.
use Rattle.std.proofs.Common.{◌≡◌, ◌^◌, ◌<◌, ◌≤◌, true, refl, arith, ℤ, pos, negsuc, ◌*ℤ◌, Ok}
use Rattle.std.specs.Prelude.{unsigned_abs}
use Rattle.std.proofs.lemmas.Int.{unsigned_abs-mul}
use Rattle.std.proofs.Math.Nat.{mul-le-mul}
use Rattle.whole_numbers.specs.Fits.{fits, product_of}

-- a number of that size has 128 bits
fits-small : (z : ℤ) → unsigned_abs z < 2 ^ 127 → fits z ≡ true
fits-small (pos n) h = grind (arith, h)
fits-small (negsuc n) h = grind (arith, h)

pub short-product_of : (a b : ℤ) → unsigned_abs a ≤ 2 ^ 63 → unsigned_abs b ≤ 2 ^ 63 → product_of a b ≡ Ok (a *ℤ b)
short-product_of a b h k =
    let small : unsigned_abs (a *ℤ b) < 2 ^ 127 = omega (arith, unsigned_abs-mul a b, mul-le-mul h k) in
    rw (fits-small (a *ℤ b) small) refl
