-- Exact quotients, and quotients rounded up.
use Rattle.std.proofs.Common.{◌≡◌, ℕ, zero, suc, ◌+◌, ◌-◌, ◌*◌, ◌/◌, ◌<◌, ◌≤◌, refl, sym, ap, ◌∙◌, arith, List, [], ◌∷◌, map, ℤ, pos, negsuc, ◌-ℤ◌, ◌*ℤ◌, ◌≤ℤ◌, ◌<ℤ◌}
use Rattle.std.specs.Prelude.{neg_ℤ, unsigned_abs, int_div}
use Rattle.std.specs.Int.{◌∣◌}
use Rattle.std.proofs.lemmas.Int.{ints, by_lt_z}
use Rattle.std.proofs.Math.Nat.{zero-div, lt-div-mul-add, div-mul-le_self, div-mul_cancel, zero-mul, one-mul, eq_of_mul-eq-mul_right}
use Rattle.whole_numbers.specs.Divisors.{ceiling_of, gcd_of, gcd_of_all}
use Rattle.whole_numbers.proofs.CommonDivisors.{DividesEach, DividesEach-gcd_of_all, gcd_of-times}
use Rattle.whole_numbers.proofs.Ring.{≤ℤ-*ℤ, neg_ℤ-*ℤ, ring}

pub ceiling_of-positive : (z : ℤ) (d : ℕ) → pos 0 <ℤ z → ceiling_of z d ≡ pos ((unsigned_abs z - 1) / d + 1)
unfolding ceiling_of
ceiling_of-positive (pos zero) d h = absurd (omega (arith, ints))
ceiling_of-positive (pos (suc n)) d h = let e : suc n - 1 ≡ n = omega arith in rw e refl
ceiling_of-positive (negsuc n) d h = absurd (omega (arith, ints))

pub ceiling_of-not_positive : (z : ℤ) (d : ℕ) → z ≤ℤ pos 0 → ceiling_of z d ≡ int_div z (pos d)
unfolding ceiling_of
ceiling_of-not_positive (pos zero) d h = ap pos (sym (zero-div d))
ceiling_of-not_positive (pos (suc n)) d h = absurd (omega (arith, ints))
ceiling_of-not_positive (negsuc n) d h = refl

-- for the code that rounds up
pub ruleset ceilings = (ceiling_of-positive, ceiling_of-not_positive)

-- ---- a quotient rounded up is the least whole number whose multiple is not below

pub ceiling_of-above : (z : ℤ) (d : ℕ) → 0 < d → z ≤ℤ (ceiling_of z d *ℤ pos d)
unfolding ceiling_of
ceiling_of-above (pos zero) d h = omega (arith, ints)
ceiling_of-above (pos (suc n)) d h = let k : n < n / d * d + d = lt-div-mul-add h in omega (arith, ints)
ceiling_of-above (negsuc n) d h =
    let k : suc n / d * d ≤ suc n = div-mul-le_self (suc n) d in rw (neg_ℤ-*ℤ (pos (suc n / d)) (pos d)) (omega (arith, ints))

one_less : (q d : ℤ) → (q -ℤ pos 1) *ℤ d ≡ q *ℤ d -ℤ d
one_less q d = simp ring (omega (arith, ints))

one_less_is_below : (z : ℤ) (d : ℕ) → 0 < d → ((ceiling_of z d -ℤ pos 1) *ℤ pos d) <ℤ z
unfolding ceiling_of
one_less_is_below (pos zero) d h = omega (arith, ints)
one_less_is_below (pos (suc n)) d h =
    let k : n / d * d ≤ n = div-mul-le_self n d in rw (one_less (pos (n / d + 1)) (pos d)) (omega (arith, ints))
one_less_is_below (negsuc n) d h =
    let k : suc n < suc n / d * d + d = lt-div-mul-add h in
    rw (one_less (neg_ℤ (pos (suc n / d))) (pos d), neg_ℤ-*ℤ (pos (suc n / d)) (pos d)) (omega (arith, ints))

pub ceiling_of-least : (z q : ℤ) (d : ℕ) → 0 < d → z ≤ℤ (q *ℤ pos d) → ceiling_of z d ≤ℤ q
ceiling_of-least z q d p h = by_lt_z q (ceiling_of z d) (λ below. absurd (too_small below)) (λ done. done)
  where
    between : (x y z : ℤ) → x ≤ℤ y → y <ℤ z → z ≤ℤ x → ⊥
    between x y z h k l = omega (arith, ints)

    too_small : q <ℤ ceiling_of z d → ⊥
    too_small below =
        let next : (q *ℤ pos d) ≤ℤ ((ceiling_of z d -ℤ pos 1) *ℤ pos d) = ≤ℤ-*ℤ q (ceiling_of z d -ℤ pos 1) (pos d) (omega (arith, ints)) (omega (arith, ints)) in
        between (q *ℤ pos d) ((ceiling_of z d -ℤ pos 1) *ℤ pos d) z next (one_less_is_below z d p) h

-- ---- exact quotients

pub int_div-*ℤ : (z : ℤ) (d : ℕ) → d ∣ unsigned_abs z → int_div z (pos d) *ℤ pos d ≡ z
int_div-*ℤ (pos n) d h = ap pos (div-mul_cancel d h)
int_div-*ℤ (negsuc n) d h = neg_ℤ-*ℤ (pos (suc n / d)) (pos d) ∙ ap (λ (m : ℕ). neg_ℤ (pos m)) (div-mul_cancel d h)

pub unsigned_abs-int_div : (z : ℤ) (d : ℕ) → unsigned_abs (int_div z (pos d)) ≡ unsigned_abs z / d
unsigned_abs-int_div (pos n) d = refl
unsigned_abs-int_div (negsuc n) d = size (suc n / d)
  where
    size : (m : ℕ) → unsigned_abs (neg_ℤ (pos m)) ≡ m
    size zero = refl
    size (suc m) = refl

-- the quotients of a list by a common divisor
abbrev pub quotients : ℕ → List ℤ → List ℤ
quotients d zs = map (λ z. int_div z (pos d)) zs

-- the greatest common divisor of the quotients is the quotient of the greatest common divisor
pub gcd_of_all-quotients : (d : ℕ) (zs : List ℤ) → 0 < d → DividesEach d zs → gcd_of_all (quotients d zs) * d ≡ gcd_of_all zs
gcd_of_all-quotients d [] p h = zero-mul d
gcd_of_all-quotients d (z ∷ zs) p h =
    ap (λ n. gcd_of n (gcd_of_all (quotients d zs)) * d) (unsigned_abs-int_div z d)
    ∙ sym (gcd_of-times (unsigned_abs z / d) (gcd_of_all (quotients d zs)) d p)
    ∙ ap (λ n. gcd_of n (gcd_of_all (quotients d zs) * d)) (div-mul_cancel d h.0)
    ∙ ap (gcd_of (unsigned_abs z)) (gcd_of_all-quotients d zs p h.1)

-- divided by their greatest common divisor, numbers have no common divisor but 1
pub gcd_of_all-reduced : (zs : List ℤ) → 0 < gcd_of_all zs → gcd_of_all (quotients (gcd_of_all zs) zs) ≡ 1
gcd_of_all-reduced zs p =
    eq_of_mul-eq-mul_right (gcd_of_all zs) p (gcd_of_all (quotients (gcd_of_all zs) zs)) 1
    (gcd_of_all-quotients (gcd_of_all zs) zs p (DividesEach-gcd_of_all zs) ∙ sym (one-mul (gcd_of_all zs)))
