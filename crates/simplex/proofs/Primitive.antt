-- A line without common divisor is the least of the lines that are proportional to it.
use Rattle.std.proofs.Common.{◌≡◌, ℕ, zero, suc, ◌*◌, ◌/◌, ◌<◌, ◌≤◌, List, [], ◌∷◌, sym, ap, subst, ◌∙◌, arith, ℤ}
use Rattle.std.specs.Prelude.{unsigned_abs}
use Rattle.std.specs.Int.{◌∣◌}
use Rattle.std.proofs.lemmas.Nat.Gcd.{dvd-zero}
use Rattle.std.proofs.Math.Nat.{mul_comm, mul_assoc, zero-mul, one-mul, mul-le-mul_left, eq_of_mul-eq-mul_right, dvd-mul_right, div-mul_cancel}
use Rattle.whole_numbers.specs.Divisors.{gcd_of_all}
use Rattle.whole_numbers.proofs.CommonDivisors.{IsGcd-gcd_of, gcd_of-times}
use Rattle.farkas_check.specs.Relations.{entry}

-- what divides each multiple divides the multiple of the greatest common divisor
pub divides_all : (d c : ℕ) (line : List ℤ) → 0 < c → ((j : ℕ) → d ∣ (unsigned_abs (entry line j) * c)) → d ∣ (gcd_of_all line * c)
divides_all d c [] p h = subst (λ n. d ∣ n) (sym (zero-mul c)) (dvd-zero d)
divides_all d c (z ∷ line) p h =
    subst (λ n. d ∣ n) (gcd_of-times (unsigned_abs z) (gcd_of_all line) c p)
    ((IsGcd-gcd_of (unsigned_abs z * c) (gcd_of_all line * c)).2 d (h 0) (divides_all d c line p (λ j. h (suc j))))

pub primitive_least : (line : List ℤ) (w : ℕ → ℤ) (c d : ℕ) → 0 < c → 0 < d → gcd_of_all line ≡ 1 → ((j : ℕ) → unsigned_abs (entry line j) * c ≡ d * unsigned_abs (w j)) → (j : ℕ) → unsigned_abs (entry line j) ≤ unsigned_abs (w j)
primitive_least line w c d p q e f j = last (divides_all d c line p (λ k. divided k))
  where
    divided : (k : ℕ) → d ∣ (unsigned_abs (entry line k) * c)
    divided k = subst (λ n. d ∣ n) (sym (f k)) (dvd-mul_right d (unsigned_abs (w k)))

    last : d ∣ (gcd_of_all line * c) → unsigned_abs (entry line j) ≤ unsigned_abs (w j)
    last h =
        finish (c / d) (div-mul_cancel d (subst (λ n. d ∣ n) (ap (λ n. n * c) e ∙ one-mul c) h))
      where
        finish : (m : ℕ) → m * d ≡ c → unsigned_abs (entry line j) ≤ unsigned_abs (w j)
        finish zero k = absurd (let z : 0 * d ≡ 0 = zero-mul d in omega (arith, k))
        finish (suc m) k =
            let same : unsigned_abs (entry line j) * suc m ≡ unsigned_abs (w j) =
            eq_of_mul-eq-mul_right d q (unsigned_abs (entry line j) * suc m) (unsigned_abs (w j))
            (mul_assoc (unsigned_abs (entry line j)) (suc m) d ∙ ap (λ n. unsigned_abs (entry line j) * n) k ∙ f j ∙ mul_comm d (unsigned_abs (w j))) in
            let more : unsigned_abs (entry line j) * 1 ≤ unsigned_abs (entry line j) * suc m = mul-le-mul_left (unsigned_abs (entry line j)) (omega arith) in
            omega arith
