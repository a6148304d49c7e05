-- Steps of ratios that can be left out: what is added is zero, or a denominator is 1 or the same.
use Rattle.std.proofs.Common.{◌≡◌, true, cond, ◌<◌, ℤ, pos, negsuc, ◌*ℤ◌, ◌<ℤ◌, Ok, Err, refl, sym, ap, ◌∙◌, arith}
use Rattle.std.specs.Prelude.{int_div, unsigned_abs}
use Rattle.std.proofs.lemmas.Int.{ints}
use Rattle.std.proofs.Math.Nat.{one-dvd, div_self, zero-div}
use Rattle.items.specs.Gives.{◌>>=◌}
use Rattle.whole_numbers.specs.Divisors.{gcd_of}
use Rattle.whole_numbers.specs.Fits.{fits, sum_of, product_of}
use Rattle.whole_numbers.proofs.CommonDivisors.{zero-gcd_of}
use Rattle.whole_numbers.proofs.Quotients.{int_div-*ℤ}
use Rattle.farkas_check.specs.Ratios.{Fraction, IsLowest, whole, lowest_terms, common_multiple, ratio_product, ratio_sum}
use Rattle.farkas_check.specs.Steps.{with_multiple}
use Rattle.farkas_check.proofs.Lowest.{IsLowest-whole}
use Rattle.farkas_check.proofs.Sums.{zero_product, zero_times, plus_zero}

quotient_by_one : (z : ℤ) → int_div z (pos 1) ≡ z
quotient_by_one z = (let same : int_div z (pos 1) *ℤ pos 1 ≡ z = int_div-*ℤ z 1 (one-dvd (unsigned_abs z)) in omega (arith, ints, same))

-- lowest terms stay as they are
pub lowest_terms_itself : (r : Fraction) → IsLowest r → lowest_terms r.num r.den ≡ r
lowest_terms_itself r low = rw low.lowest (rw (quotient_by_one r.num, quotient_by_one r.den) refl)

product_by_one : (a : ℤ) → fits a ≡ true → product_of a (pos 1) ≡ Ok a
product_by_one a f =
    let same : a *ℤ pos 1 ≡ a = omega (arith, ints) in
    ap (λ z. cond (fits z) (Ok z) (Err (record { left = a; right = pos 1; times = true }))) same
    ∙ ap (λ b. cond b (Ok a) (Err (record { left = a; right = pos 1; times = true }))) f

-- the denominator of zero
zero_den : (r : Fraction) → IsLowest r → r.num ≡ pos 0 → r.den ≡ pos 1
zero_den r low zero =
    let positive = low.positive in
    let one : unsigned_abs r.den ≡ 1 = sym (zero-gcd_of (unsigned_abs r.den)) ∙ ap (λ z. gcd_of (unsigned_abs z) (unsigned_abs r.den)) (sym zero) ∙ low.lowest in
    omega (arith, ints, positive, one)

zero_is_whole : (r : Fraction) → IsLowest r → r.num ≡ pos 0 → r ≡ whole (pos 0)
zero_is_whole r low zero = rw (← zero) (rw (← (zero_den r low zero)) refl)

quotient_by_itself : (d : ℤ) → pos 0 <ℤ d → int_div d d ≡ pos 1
quotient_by_itself (pos n) p = let some : 0 < n = omega (arith, ints, p) in ap pos (div_self some)
quotient_by_itself (negsuc n) p = absurd (omega (arith, ints, p))

-- ---- sums

multiple_with_one : (d : ℤ) → fits d ≡ true → common_multiple d (pos 1) ≡ Ok d
multiple_with_one d f =
    let one : gcd_of (unsigned_abs d) 1 ≡ 1 = (IsLowest-whole d).lowest in
    ap (λ n. product_of (int_div d (pos n)) (pos 1)) one ∙ ap (λ z. product_of z (pos 1)) (quotient_by_one d) ∙ product_by_one d f

plus_none : (total : Fraction) → IsLowest total → fits total.num ≡ true → fits total.den ≡ true → ratio_sum total (whole (pos 0)) ≡ Ok total
plus_none total low f g =
    ap (λ m. m >>= λ den. product_of total.num (int_div den total.den) >>= λ left. product_of (pos 0) (int_div den (pos 1)) >>= λ right. sum_of left right >>= λ num. Ok (lowest_terms num den)) (multiple_with_one total.den g)
    ∙ ap (λ q. product_of total.num q >>= λ left. product_of (pos 0) (int_div total.den (pos 1)) >>= λ right. sum_of left right >>= λ num. Ok (lowest_terms num total.den)) (quotient_by_itself total.den low.positive)
    ∙ ap (λ p. p >>= λ left. product_of (pos 0) (int_div total.den (pos 1)) >>= λ right. sum_of left right >>= λ num. Ok (lowest_terms num total.den)) (product_by_one total.num f)
    ∙ ap (λ p. p >>= λ right. sum_of total.num right >>= λ num. Ok (lowest_terms num total.den)) (zero_times (int_div total.den (pos 1)))
    ∙ ap (λ p. p >>= λ num. Ok (lowest_terms num total.den)) (plus_zero total.num f)
    ∙ ap Ok (lowest_terms_itself total low)

-- ---- zero over a denominator

zero_over : (d : ℤ) → pos 0 <ℤ d → record { num = int_div (pos 0) d; den = int_div d d } ≡ whole (pos 0)
zero_over (pos n) p = (let some : 0 < n = omega (arith, ints, p) in rw (zero-div n, div_self some) refl)
zero_over (negsuc n) p = absurd (omega (arith, ints, p))

pub lowest_zero : (number d : ℤ) → pos 0 <ℤ d → number ≡ pos 0 → whole (pos 0) ≡ lowest_terms number d
lowest_zero number d p e = sym (ap (λ n. lowest_terms n d) e ∙ ap (λ z. record { num = int_div (pos 0) z; den = int_div d z }) (own d p) ∙ zero_over d p)
  where
    own : (d : ℤ) → pos 0 <ℤ d → pos (gcd_of 0 (unsigned_abs d)) ≡ d
    own (pos n) p = ap pos (zero-gcd_of n)
    own (negsuc n) p = absurd (omega (arith, ints, p))

-- ---- products with zero

one_times : (a : ℤ) → fits a ≡ true → product_of (pos 1) a ≡ Ok a
one_times a f =
    let same : pos 1 *ℤ a ≡ a = omega (arith, ints) in
    ap (λ z. cond (fits z) (Ok z) (Err (record { left = pos 1; right = a; times = true }))) same
    ∙ ap (λ b. cond b (Ok a) (Err (record { left = pos 1; right = a; times = true }))) f

none_times : (b : Fraction) → fits b.den ≡ true → ratio_product (whole (pos 0)) b ≡ Ok (lowest_terms (pos 0) b.den)
none_times b f =
    ap (λ p. p >>= λ num. product_of (pos 1) b.den >>= λ den. Ok (lowest_terms num den)) (zero_times b.num)
    ∙ ap (λ p. p >>= λ den. Ok (lowest_terms (pos 0) den)) (one_times b.den f)

times_none : (a : Fraction) → fits a.den ≡ true → ratio_product a (whole (pos 0)) ≡ Ok (lowest_terms (pos 0) a.den)
times_none a f =
    ap (λ p. p >>= λ num. product_of a.den (pos 1) >>= λ den. Ok (lowest_terms num den)) (zero_product a.num)
    ∙ ap (λ p. p >>= λ den. Ok (lowest_terms (pos 0) den)) (product_by_one a.den f)

-- ---- for the code

pub lowest_whole : (number den : ℤ) → den ≡ pos 1 → whole number ≡ lowest_terms number den
lowest_whole number den e = sym (ap (lowest_terms number) e ∙ lowest_terms_itself (whole number) (IsLowest-whole number))

pub over_itself : (num den own : ℤ) → fits num ≡ true → pos 0 <ℤ own → den ≡ own → Ok num ≡ product_of num (int_div den own)
over_itself num den own f p e =
    sym (ap (λ d. product_of num (int_div d own)) e ∙ ap (product_of num) (quotient_by_itself own p) ∙ product_by_one num f)

pub multiple_of_one : (d e : ℤ) → fits d ≡ true → e ≡ pos 1 → Ok d ≡ common_multiple d e
multiple_of_one d e f one = sym (ap (common_multiple d) one ∙ multiple_with_one d f)

pub sum_with_zero : (a r : Fraction) → IsLowest a → IsLowest r → fits a.num ≡ true → fits a.den ≡ true → r.num ≡ pos 0 → Ok a ≡ ratio_sum a r
sum_with_zero a r low own f g zero = sym (ap (ratio_sum a) (zero_is_whole r own zero) ∙ plus_none a low f g)

pub product_from_zero : (a b : Fraction) → IsLowest a → fits b.den ≡ true → a.num ≡ pos 0 → Ok (lowest_terms (pos 0) b.den) ≡ ratio_product a b
product_from_zero a b own f zero = sym (ap (λ r. ratio_product r b) (zero_is_whole a own zero) ∙ none_times b f)

pub product_with_zero : (a b : Fraction) → IsLowest b → fits a.den ≡ true → b.num ≡ pos 0 → Ok (lowest_terms (pos 0) a.den) ≡ ratio_product a b
product_with_zero a b own f zero = sym (ap (ratio_product a) (zero_is_whole b own zero) ∙ times_none a f)

pub with_multiple-zero : (total ratio : Fraction) (number : ℤ) → IsLowest total → IsLowest ratio → fits total.num ≡ true → fits total.den ≡ true → ratio.num ≡ pos 0 → Ok total ≡ with_multiple total number ratio
with_multiple-zero total ratio number low own f g zero =
    sym (
    ap (with_multiple total number) (zero_is_whole ratio own zero)
    ∙ ap (λ p. p >>= λ part. ratio_sum total part) (times_none (whole number) refl ∙ ap Ok (lowest_terms_itself (whole (pos 0)) (IsLowest-whole (pos 0))))
    ∙ plus_none total low f g
    )

pub ruleset zeros = (sum_with_zero)

pub ruleset shortcuts = (lowest_whole, lowest_zero, over_itself, multiple_of_one)
