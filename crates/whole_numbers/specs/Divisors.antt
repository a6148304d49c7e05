-- Divisors, and quotients of whole numbers by a positive number.
use Rattle.std.specs.Prelude.{ℕ, zero, suc, ◌+◌, ◌/◌, ◌%◌, max, Bool, ◌&&◌, ◌==◌, ℤ, pos, negsuc, neg_ℤ, unsigned_abs, List, [], ◌∷◌, if◌then◌else◌}

-- d divides n; 0 divides 0 alone
abbrev pub divides : ℕ → ℕ → Bool
divides d n = n % d == 0

-- the greatest number up to the bound that passes the test, and 0 where none does
abbrev pub greatest_up_to : ℕ → (ℕ → Bool) → ℕ
greatest_up_to zero p = zero
greatest_up_to (suc n) p = if p (suc n) then suc n else greatest_up_to n p

-- the greatest common divisor: the greatest number that divides both, and 0 of 0 and 0
unfoldable pub gcd_of : ℕ → ℕ → ℕ
gcd_of a b = greatest_up_to (max a b) (λ d. divides d a && divides d b)

-- the greatest common divisor of a list, and 0 of the empty list
abbrev pub gcd_of_all : List ℤ → ℕ
gcd_of_all [] = 0
gcd_of_all (z ∷ zs) = gcd_of (unsigned_abs z) (gcd_of_all zs)

-- the quotient by a positive number rounded up: the least whole number q with z ≤ q * d
unfoldable pub ceiling_of : ℤ → ℕ → ℤ
ceiling_of (pos zero) d = pos zero
ceiling_of (pos (suc n)) d = pos (n / d + 1)
ceiling_of (negsuc n) d = neg_ℤ (pos (suc n / d))
