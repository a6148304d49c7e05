-- Bounds rounded down: a certificate's bound is below the next whole number, and so below each one
-- after it.
use Rattle.std.proofs.Common.{◌≡◌, ℕ, zero, suc, ◌+◌, ◌*◌, ◌/◌, ◌<◌, ◌≤◌, Bool, true, false, Result, Ok, Err, refl, sym, ap, subst, ◌∙◌, arith, ℤ, pos, negsuc, ◌+ℤ◌, ◌*ℤ◌, ◌≤ℤ◌, ◌<ℤ◌}
use Rattle.std.specs.Prelude.{int_le, neg_ℤ, ◌&&◌}
use Rattle.std.specs.Int.{int_div_euclid}
use Rattle.std.proofs.lemmas.Int.{ints}
use Rattle.std.proofs.lemmas.Bool.{false≢true}
use Rattle.std.proofs.Math.Nat.{lt-div-mul-add, div-mul-le_self}
use Rattle.std.proofs.Math.IntN.{*ℤ_comm}
use Rattle.items.specs.Gives.{◌>>=◌}
use Rattle.items.proofs.Gives.{on_ok}
use Rattle.whole_numbers.specs.declared.wide.Wide as Step
use Rattle.whole_numbers.specs.Fits.{sum_of, product_of}
use Rattle.whole_numbers.proofs.Ring.{≤ℤ-*ℤ, +ℤ-*ℤ, neg_ℤ-*ℤ, one-*ℤ, sum_of-value, product_of-value}
use Rattle.farkas_check.specs.Multiples.{are_multipliers}
use Rattle.farkas_check.specs.Parts.{and_then}
use Rattle.farkas_check.specs.Tested.{tested_sum, tested_below, tested_cert}
use Rattle.farkas_check.specs.declared.answer.Cert.{Cert}
use Rattle.farkas_check.specs.declared.question.Goal.{Goal}
use Rattle.farkas_check.proofs.Farkas.{bool_ok}
use Rattle.simplex.specs.Goals.{whole_bound}
use Rattle.simplex.proofs.BoundCertificates.{IsCertified}
use Rattle.simplex.proofs.Certificates.{le_true}

-- a number between the products of its quotient rounded down, and of the next one
pub record IsFloor (z d q : ℤ) : Type 0 where
  pub below : (q *ℤ d) ≤ℤ z
  pub above : z <ℤ ((q +ℤ pos 1) *ℤ d)

le_pos : (m a : ℕ) → m ≤ a → pos m ≤ℤ pos a
le_pos m a h = omega (arith, ints, h)

lt_pos : (m d a : ℕ) → a < m + d → pos a <ℤ (pos m +ℤ pos d)
lt_pos m d a h = omega (arith, ints, h)

neg_le : (m d a : ℕ) → a < m + d → neg_ℤ (pos m +ℤ pos d) ≤ℤ negsuc a
neg_le m d a h = omega (arith, ints, h)

lt_neg : (m d a : ℕ) → m ≤ a → negsuc a <ℤ (neg_ℤ (pos m +ℤ pos d) +ℤ pos d)
lt_neg m d a h = omega (arith, ints, h)

next_times : (q d : ℤ) → (q +ℤ pos 1) *ℤ d ≡ q *ℤ d +ℤ d
next_times q d = +ℤ-*ℤ q (pos 1) d ∙ ap (λ z. q *ℤ d +ℤ z) (one-*ℤ d)

negative_times : (q : ℕ) (d : ℤ) → negsuc q *ℤ d ≡ neg_ℤ (pos q *ℤ d +ℤ d)
negative_times q d = ap (λ z. z *ℤ d) (less q) ∙ neg_ℤ-*ℤ (pos q +ℤ pos 1) d ∙ ap neg_ℤ (next_times (pos q) d)
  where
    less : (q : ℕ) → negsuc q ≡ neg_ℤ (pos q +ℤ pos 1)
    less q = omega (arith, ints)

pub floor-is : (z d : ℤ) → pos 0 <ℤ d → IsFloor z d (int_div_euclid z d)
floor-is (pos a) (pos zero) h = absurd (omega (arith, ints, h))
floor-is (pos a) (pos (suc b)) h = record {
  below = le_pos (a / suc b * suc b) a (div-mul-le_self a (suc b));
  above = subst (λ z. pos a <ℤ z) (sym (next_times (pos (a / suc b)) (pos (suc b)))) (lt_pos (a / suc b * suc b) (suc b) a (lt-div-mul-add (omega arith)));
}
floor-is (pos a) (negsuc b) h = absurd (omega (arith, ints, h))
floor-is (negsuc a) (pos zero) h = absurd (omega (arith, ints, h))
floor-is (negsuc a) (pos (suc b)) h = record {
  below = subst (λ z. z ≤ℤ negsuc a) (sym (negative_times (a / suc b) (pos (suc b)))) (neg_le (a / suc b * suc b) (suc b) a (lt-div-mul-add (omega arith)));
  above = subst (λ z. negsuc a <ℤ z) (sym (next_times (negsuc (a / suc b)) (pos (suc b)) ∙ ap (λ z. z +ℤ pos (suc b)) (negative_times (a / suc b) (pos (suc b))))) (lt_neg (a / suc b * suc b) (suc b) a (div-mul-le_self a (suc b)));
}
floor-is (negsuc a) (negsuc b) h = absurd (omega (arith, ints, h))

-- ---- the bound of a certificate

pub certificate-floor : (cert : Cert) → pos 0 <ℤ cert.scale → IsFloor cert.sum cert.scale (whole_bound cert)
certificate-floor cert h = floor-is cert.sum cert.scale h

-- the bound is below the whole number after `at`, where it is rounded down to at most this
pub next_above : (cert : Cert) (at : ℤ) → pos 0 <ℤ cert.scale → whole_bound cert ≤ℤ at → cert.sum <ℤ (cert.scale *ℤ (at +ℤ pos 1))
next_above cert at h below = chain cert.sum ((whole_bound cert +ℤ pos 1) *ℤ cert.scale) ((at +ℤ pos 1) *ℤ cert.scale) (cert.scale *ℤ (at +ℤ pos 1)) (certificate-floor cert h).above
    (≤ℤ-*ℤ (whole_bound cert +ℤ pos 1) (at +ℤ pos 1) cert.scale (weak cert.scale h) (both (whole_bound cert) at below)) (*ℤ_comm (at +ℤ pos 1) cert.scale)
  where
    weak : (z : ℤ) → pos 0 <ℤ z → pos 0 ≤ℤ z
    weak z h = omega (arith, ints, h)

    both : (x y : ℤ) → x ≤ℤ y → (x +ℤ pos 1) ≤ℤ (y +ℤ pos 1)
    both x y h = omega (arith, ints, h)

    chain : (x y z w : ℤ) → x <ℤ y → y ≤ℤ z → z ≡ w → x <ℤ w
    chain x y z w e f g = omega (arith, ints, e, f, g)

pub below-honest : (cert : Cert) (at : ℤ) (b : Bool) → pos 0 <ℤ cert.scale → whole_bound cert ≤ℤ at → tested_below at cert ≡ Ok b → b ≡ true
below-honest cert at b h below e =
    on_ok (sum_of at (pos 1)) (λ next. product_of cert.scale next >>= λ limit. sum_of limit (negsuc 0) >>= λ most. bool_ok (int_le cert.sum most)) b e
    (λ next f g. on_ok (product_of cert.scale next) (λ limit. sum_of limit (negsuc 0) >>= λ most. bool_ok (int_le cert.sum most)) b g
    (λ limit k l. on_ok (sum_of limit (negsuc 0)) (λ most. bool_ok (int_le cert.sum most)) b l
    (λ most m n. let same : int_le cert.sum most ≡ b = cc in sym same ∙ le_true cert.sum most
    (at_most cert.sum (cert.scale *ℤ (at +ℤ pos 1)) limit most (next_above cert at h below) (product_of-value cert.scale next limit k ∙ ap (λ z. cert.scale *ℤ z) (sum_of-value at (pos 1) next f)) (sum_of-value limit (negsuc 0) most m)))))
  where
    at_most : (x y limit most : ℤ) → x <ℤ y → limit ≡ y → most ≡ limit +ℤ negsuc 0 → x ≤ℤ most
    at_most x y limit most e f g = omega (arith, ints, e, f, g)

pub cert-honest : (goal : Goal) (cert : Cert) (at : ℤ) (b : Bool) → IsCertified goal cert → whole_bound cert ≤ℤ at → tested_cert at goal cert ≡ Ok b → b ≡ true
cert-honest goal cert at b c below e = first (are_multipliers goal.rows cert.by && int_le (pos 1) cert.scale) (both (are_multipliers goal.rows cert.by) c.multipliers (le_true (pos 1) cert.scale (least cert.scale c.scale))) e
  where
    least : (z : ℤ) → pos 0 <ℤ z → pos 1 ≤ℤ z
    least z h = omega (arith, ints, h)

    both : (x : Bool) → x ≡ true → int_le (pos 1) cert.scale ≡ true → x && int_le (pos 1) cert.scale ≡ true
    both x f g = rw (f, g) refl

    after_sum : (r : Result Bool Step.Wide) → tested_sum goal cert ≡ r → and_then r (tested_below at cert) ≡ Ok b → b ≡ true
    after_sum (Ok true) f g = below-honest cert at b c.scale below g
    after_sum (Ok false) f g = absurd (false≢true (c.sum false f))
    after_sum (Err w) f g = cc

    first : (q : Bool) → q ≡ true → and_then (bool_ok q) (and_then (tested_sum goal cert) (tested_below at cert)) ≡ Ok b → b ≡ true
    first true f g = after_sum (tested_sum goal cert) refl g
    first false f g = cc
