-- Ratios over a common denominator that is not great: their least common denominator, and their
-- numerators over it, stay within 128 bits.
use Rattle.std.proofs.Common.{◌≡◌, ℕ, zero, suc, ◌+◌, ◌^◌, ◌<◌, ◌≤◌, List, [], ◌∷◌, length, get_or, Result, Ok, refl, sym, ap, subst, ◌∙◌, arith, ℤ, pos, negsuc, ◌+ℤ◌, ◌*ℤ◌, ◌<ℤ◌}
use Rattle.std.specs.Prelude.{unsigned_abs, int_div}
use Rattle.std.specs.List.{AllByRecursion}
use Rattle.std.proofs.lemmas.Int.{ints}
use Rattle.std.proofs.lemmas.Nat.Gcd.{le_of_dvd}
use Rattle.std.proofs.Math.IntN.{*ℤ_comm}
use Rattle.items.specs.Gives.{◌>>=◌}
use Rattle.items.proofs.Gives.{on_ok}
use Rattle.whole_numbers.specs.Divisors.{gcd_of}
use Rattle.whole_numbers.specs.Fits.{product_of, sum_of}
use Rattle.whole_numbers.specs.declared.wide.Wide as Step
use Rattle.whole_numbers.proofs.CommonDivisors.{IsGcd-gcd_of}
use Rattle.whole_numbers.proofs.Ring.{unsigned_abs-+ℤ, *ℤ_cancel, *ℤ_assoc, one-*ℤ}
use Rattle.linear_terms.specs.Polynomial.{Polynomial}
use Rattle.farkas_check.specs.Ratios.{Fraction, IsLowest, whole, lowest_terms, common_multiple, ratio_sum, ratio_product}
use Rattle.farkas_check.proofs.Lowest.{divisor_positive, IsLowest-lowest_terms}
use Rattle.farkas_check.proofs.PointValues.{Stands}
use Rattle.farkas_check.proofs.Spots.{Stands-times}
use Rattle.simplex.specs.Spots.{denominator_from, common_denominator, numerators_over, sums_of, values_of}
use Rattle.simplex.proofs.Denominators.{IsFactor, IsLeastMultiple, IsLeastOver, AreLowest, AreFactors, common_multiple-least, denominator-least}
use Rattle.simplex.proofs.Exchanges.{factor_positive}
use Rattle.simplex.proofs.Small.{HasValue, bind_value, product_of-fits}
use Rattle.simplex.proofs.Widths.{IsRatio, IsShare, shared, factor_small, quotient_is, sum-ratio}

-- ---- the least common denominator

abbrev ratio_after : Fraction → Fraction → ℤ → Result Fraction Step.Wide
ratio_after a b den = product_of a.num (int_div den a.den) >>= λ left. product_of b.num (int_div den b.den) >>= λ right. sum_of left right >>= λ num. Ok (lowest_terms num den)

one_lowest : (d : ℤ) → pos 0 <ℤ d → IsLowest (record { num = pos 1; den = d })
one_lowest d h = record { positive = h; lowest = one_of (gcd_of (unsigned_abs (pos 1)) (unsigned_abs d)) (le_of_dvd (omega arith) (IsGcd-gcd_of (unsigned_abs (pos 1)) (unsigned_abs d)).0) (divisor_positive (pos 1) d h) }
  where
    one_of : (g : ℕ) → g ≤ 1 → 0 < g → g ≡ 1
    one_of g p q = omega (arith, p, q)

part_of_one : (c b : ℤ) → pos 0 <ℤ c → pos 0 <ℤ b → (f : IsFactor c b) → IsRatio (record { num = pos 1; den = c }) f.times b
part_of_one c b p q f = record { stands = record { same = one-*ℤ b ∙ sym f.is ∙ *ℤ_comm c f.times; positive = p }; lowest = one_lowest c p }

common_multiple-fits : (c d b : ℤ) → pos 0 <ℤ c → pos 0 <ℤ d → pos 0 <ℤ b → IsFactor c b → IsFactor d b → unsigned_abs b ≤ 1099511627776 → HasValue (common_multiple c d)
common_multiple-fits c d b p q above f g small =
    let fs : unsigned_abs f.times ≤ unsigned_abs b = small_times c f p in
    let gs : unsigned_abs g.times ≤ unsigned_abs b = small_times d g q in
    let both : unsigned_abs (f.times +ℤ g.times) ≤ unsigned_abs f.times + unsigned_abs g.times = unsigned_abs-+ℤ f.times g.times in
    with_sum (sum-ratio f.times g.times b (record { num = pos 1; den = c }) (record { num = pos 1; den = d }) above (part_of_one c b p above f) (part_of_one d b q above g) (omega (arith, fs, small)) (omega (arith, gs, small)) (omega (arith, both, fs, gs, small)) (omega (arith, small)))
  where
    small_times : (e : ℤ) (h : IsFactor e b) → pos 0 <ℤ e → unsigned_abs h.times ≤ unsigned_abs b
    small_times e h r = factor_small h.times e b r (*ℤ_comm h.times e ∙ h.is)

    with_sum : ((r : Fraction) × ((ratio_sum (record { num = pos 1; den = c }) (record { num = pos 1; den = d }) ≡ Ok r) × IsRatio r (f.times +ℤ g.times) b)) → HasValue (common_multiple c d)
    with_sum r = on_ok (common_multiple c d) (ratio_after (record { num = pos 1; den = c }) (record { num = pos 1; den = d })) r.0 r.1.0 (λ m e more. (m, e))

denominator-fits : (common b : ℤ) (rs : List Fraction) → pos 0 <ℤ common → pos 0 <ℤ b → unsigned_abs b ≤ 1099511627776 → IsFactor common b → AreFactors rs b → AreLowest rs → HasValue (denominator_from common rs)
denominator-fits common b [] p above small own each s = (common, refl)
denominator-fits common b (r ∷ rs) p above small own each s =
    bind_value (common_multiple common r.den) (λ next. denominator_from next rs) (common_multiple-fits common r.den b p s.0.positive above own each.0 small)
    (λ next e. let c : IsLeastMultiple common r.den next = common_multiple-least common r.den next p s.0.positive e in denominator-fits next b rs c.positive above small (c.least b above own each.0) each.1 s.1)

-- ---- ratios over one denominator

-- the ratio is a number of at most so great a size over the denominator
pub record IsRatioBelow (n : ℕ) (d : ℤ) (r : Fraction) : Type 0 where
  pub number : ℤ
  pub is : IsRatio r number d
  pub small : unsigned_abs number ≤ n

pub all_lowest : (n : ℕ) (d : ℤ) (rs : List Fraction) → AllByRecursion (IsRatioBelow n d) rs → AreLowest rs
all_lowest n d [] h = tt
all_lowest n d (r ∷ rs) h = (h.0.is.lowest, all_lowest n d rs h.1)

all_factors : (n : ℕ) (d : ℤ) (rs : List Fraction) → pos 0 <ℤ d → AllByRecursion (IsRatioBelow n d) rs → AreFactors rs d
all_factors n d [] above h = tt
all_factors n d (r ∷ rs) above h = (let s : IsShare r h.0.number d = shared r h.0.number d above h.0.is in record { times = s.times; is = s.den }, all_factors n d rs above h.1)

of_one : (z : ℤ) → IsFactor (pos 1) z
of_one z = record { times = z; is = one-*ℤ z }

-- the least common denominator
pub common-fits : (n : ℕ) (d : ℤ) (rs : List Fraction) → pos 0 <ℤ d → unsigned_abs d ≤ 1099511627776 → AllByRecursion (IsRatioBelow n d) rs → HasValue (common_denominator rs)
common-fits n d rs above small h = denominator-fits (pos 1) d rs (omega (arith, ints)) above small (of_one d) (all_factors n d rs above h) (all_lowest n d rs h)

numerators-fit : (n : ℕ) (m d : ℤ) (rs : List Fraction) → pos 0 <ℤ m → pos 0 <ℤ d → IsFactor m d → AreFactors rs m → AllByRecursion (IsRatioBelow n d) rs → n < 2 ^ 127 → HasValue (numerators_over m rs)
numerators-fit n m d [] p above own each h room = ([], refl)
numerators-fit n m d (r ∷ rs) p above own each h room =
    bind_value (product_of r.num (int_div m r.den)) (λ z. numerators_over m rs >>= λ more. numbers_ok (z ∷ more)) (r.num *ℤ int_div m r.den, product_of-fits r.num (int_div m r.den) (let g : unsigned_abs (r.num *ℤ int_div m r.den) ≤ unsigned_abs h.0.number = bound in let k : unsigned_abs h.0.number ≤ n = h.0.small in omega (arith, g, k, room)))
    (λ z e. bind_value (numerators_over m rs) (λ more. numbers_ok (z ∷ more)) (numerators-fit n m d rs p above own each.1 h.1 room) (λ more f. (z ∷ more, refl)))
  where
    numbers_ok : List ℤ → Result (List ℤ) Step.Wide
    numbers_ok ns = Ok ns

    s : IsShare r h.0.number d
    s = shared r h.0.number d above h.0.is

    q_is : int_div m r.den ≡ each.0.times
    q_is = quotient_is m r.den each.0.times h.0.is.lowest.positive (sym each.0.is ∙ *ℤ_comm r.den each.0.times)

    times_is : each.0.times *ℤ own.times ≡ s.times
    times_is = *ℤ_cancel (each.0.times *ℤ own.times) s.times r.den h.0.is.lowest.positive
        (*ℤ_comm (each.0.times *ℤ own.times) r.den ∙ sym (*ℤ_assoc r.den each.0.times own.times) ∙ ap (λ z. z *ℤ own.times) each.0.is ∙ own.is ∙ sym s.den ∙ *ℤ_comm r.den s.times)

    bound : unsigned_abs (r.num *ℤ int_div m r.den) ≤ unsigned_abs h.0.number
    bound = factor_small (r.num *ℤ int_div m r.den) own.times h.0.number (factor_positive m own.times p (subst (λ z. pos 0 <ℤ z) (sym own.is) above))
        (ap (λ z. r.num *ℤ z *ℤ own.times) q_is ∙ *ℤ_assoc r.num each.0.times own.times ∙ ap (λ z. r.num *ℤ z) times_is ∙ s.num)

-- the numerators over it
pub over-fits : (n : ℕ) (d m : ℤ) (rs : List Fraction) → pos 0 <ℤ d → common_denominator rs ≡ Ok m → AllByRecursion (IsRatioBelow n d) rs → n < 2 ^ 127 → HasValue (numerators_over m rs)
over-fits n d m rs above e h room = numerators-fit n m d rs o.positive above (o.least d above (of_one d) (all_factors n d rs above h)) o.each h room
  where
    o : IsLeastOver (pos 1) rs m
    o = denominator-least (pos 1) rs m (omega (arith, ints)) (all_lowest n d rs h) e

-- ---- sums

-- two lists of ratios over one denominator, place by place
pub record AreSums (zs : List Fraction) (f g : ℕ → ℤ) (d : ℤ) (count : ℕ) : Type 0 where
  pub each : length zs ≡ count
  pub ratio : (j : ℕ) → j < count → IsRatio (get_or zs j (whole (pos 0))) (f j +ℤ g j) d

abbrev HasSums : List Fraction → List Fraction → (ℕ → ℤ) → (ℕ → ℤ) → ℤ → Type 0
HasSums xs ys f g d = (zs : List Fraction) × ((sums_of xs ys ≡ Ok zs) × AreSums zs f g d (length xs))

pub sums-ratio : (n : ℕ) (xs ys : List Fraction) (f g : ℕ → ℤ) (d : ℤ) → pos 0 <ℤ d → unsigned_abs d ≤ n → n ≤ 1099511627776 → length xs ≡ length ys → ((j : ℕ) → j < length xs → IsRatio (get_or xs j (whole (pos 0))) (f j) d) → ((j : ℕ) → j < length xs → IsRatio (get_or ys j (whole (pos 0))) (g j) d)
    → ((j : ℕ) → j < length xs → unsigned_abs (f j) ≤ n) → ((j : ℕ) → j < length xs → unsigned_abs (g j) ≤ n) → (zs : List Fraction) × ((sums_of xs ys ≡ Ok zs) × AreSums zs f g d (length xs))
sums-ratio n [] ys f g d above small most same p q a b = ([], (refl, record { each = refl; ratio = λ j h. absurd (omega (arith, h)) }))
sums-ratio n (x ∷ xs) [] f g d above small most same p q a b = absurd (omega (arith, same))
sums-ratio n (x ∷ xs) (y ∷ ys) f g d above small most same p q a b =
    joined first (sums-ratio n xs ys (λ j. f (suc j)) (λ j. g (suc j)) d above small most (omega (arith, same)) (λ j h. p (suc j) (omega (arith, h))) (λ j h. q (suc j) (omega (arith, h))) (λ j h. a (suc j) (omega (arith, h))) (λ j h. b (suc j) (omega (arith, h))))
  where
    ratios_ok : List Fraction → Result (List Fraction) Step.Wide
    ratios_ok rs = Ok rs

    first : (r : Fraction) × ((ratio_sum x y ≡ Ok r) × IsRatio r (f 0 +ℤ g 0) d)
    first =
        let fs : unsigned_abs (f 0) ≤ n = a 0 (omega arith) in
        let gs : unsigned_abs (g 0) ≤ n = b 0 (omega arith) in
        let both : unsigned_abs (f 0 +ℤ g 0) ≤ unsigned_abs (f 0) + unsigned_abs (g 0) = unsigned_abs-+ℤ (f 0) (g 0) in
        sum-ratio (f 0) (g 0) d x y above (p 0 (omega arith)) (q 0 (omega arith)) (omega (arith, fs, most)) (omega (arith, gs, most)) (omega (arith, both, fs, gs, most)) (omega (arith, small, most))

    joined : ((r : Fraction) × ((ratio_sum x y ≡ Ok r) × IsRatio r (f 0 +ℤ g 0) d)) → HasSums xs ys (λ j. f (suc j)) (λ j. g (suc j)) d → HasSums (x ∷ xs) (y ∷ ys) f g d
    joined r more = (
      r.0 ∷ more.0,
      (
        ap (λ (z : Result Fraction Step.Wide). z >>= λ u. sums_of xs ys >>= λ us. ratios_ok (u ∷ us)) r.1.0 ∙ ap (λ (us : Result (List Fraction) Step.Wide). us >>= λ vs. ratios_ok (r.0 ∷ vs)) more.1.0,
        record { each = ap (λ (k : ℕ). suc k) more.1.1.each; ratio = λ j h. at j h },
      ),
    )
      where
        at : (j : ℕ) → j < suc (length xs) → IsRatio (get_or (r.0 ∷ more.0) j (whole (pos 0))) (f j +ℤ g j) d
        at zero h = r.1.1
        at (suc j) h = more.1.1.ratio j (omega (arith, h))

-- ---- values

-- the value is a ratio with a property
abbrev pub HasValueWith : (Fraction → Type 0) → (Polynomial → Result Fraction Step.Wide) → Polynomial → Type 0
HasValueWith P value p = (r : Fraction) × ((value p ≡ Ok r) × P r)

pub values-with : (P : Fraction → Type 0) (value : Polynomial → Result Fraction Step.Wide) (ps : List Polynomial) → AllByRecursion (HasValueWith P value) ps → (rs : List Fraction) × ((values_of value ps ≡ Ok rs) × AllByRecursion P rs)
values-with P value [] h = ([], (refl, tt))
values-with P value (p ∷ ps) h = joined (values-with P value ps h.1)
  where
    ratios_ok : List Fraction → Result (List Fraction) Step.Wide
    ratios_ok rs = Ok rs

    joined : ((rs : List Fraction) × ((values_of value ps ≡ Ok rs) × AllByRecursion P rs)) → (rs : List Fraction) × ((values_of value (p ∷ ps) ≡ Ok rs) × AllByRecursion P rs)
    joined more = (
      h.0.0 ∷ more.0,
      (
        ap (λ (z : Result Fraction Step.Wide). z >>= λ u. values_of value ps >>= λ us. ratios_ok (u ∷ us)) h.0.1.0 ∙ ap (λ (us : Result (List Fraction) Step.Wide). us >>= λ vs. ratios_ok (h.0.0 ∷ vs)) more.1.0,
        (h.0.1.1, more.1.1),
      ),
    )

-- a value times -1
pub minus-with : (n : ℕ) (d : ℤ) (r : Fraction) → pos 0 <ℤ d → unsigned_abs d < 2 ^ 127 → n < 2 ^ 127 → IsRatioBelow n d r → (q : Fraction) × ((ratio_product r (whole (negsuc 0)) ≡ Ok q) × IsRatioBelow n d q)
minus-with n d r above fits room h = (lowest_terms (r.num *ℤ negsuc 0) (r.den *ℤ pos 1), (made, record { number = h.number *ℤ negsuc 0; is = is; small = subst (λ (k : ℕ). k ≤ n) (sym (same_size h.number)) h.small }))
  where
    s : IsShare r h.number d
    s = shared r h.number d above h.is

    same_size : (z : ℤ) → unsigned_abs (z *ℤ negsuc 0) ≡ unsigned_abs z
    same_size z = omega (arith, ints)

    once : (z : ℤ) → z *ℤ pos 1 ≡ z
    once z = omega (arith, ints)

    num_small : unsigned_abs (r.num *ℤ negsuc 0) < 2 ^ 127
    num_small = let g : unsigned_abs r.num ≤ unsigned_abs h.number = factor_small r.num s.times h.number s.positive s.num in let k : unsigned_abs h.number ≤ n = h.small in let e : unsigned_abs (r.num *ℤ negsuc 0) ≡ unsigned_abs r.num = same_size r.num in omega (arith, g, k, e, room)

    den_small : unsigned_abs (r.den *ℤ pos 1) < 2 ^ 127
    den_small = let g : unsigned_abs r.den ≤ unsigned_abs d = factor_small r.den s.times d s.positive s.den in let e : unsigned_abs (r.den *ℤ pos 1) ≡ unsigned_abs r.den = ap unsigned_abs (once r.den) in omega (arith, g, e, fits)

    made : ratio_product r (whole (negsuc 0)) ≡ Ok (lowest_terms (r.num *ℤ negsuc 0) (r.den *ℤ pos 1))
    made = rw (product_of-fits r.num (negsuc 0) num_small, product_of-fits r.den (pos 1) den_small) refl

    is : IsRatio (lowest_terms (r.num *ℤ negsuc 0) (r.den *ℤ pos 1)) (h.number *ℤ negsuc 0) d
    is = record {
      stands = subst (λ z. Stands (lowest_terms (r.num *ℤ negsuc 0) (r.den *ℤ pos 1)) (h.number *ℤ negsuc 0) z) (once d) (Stands-times h.number d r (whole (negsuc 0)) (lowest_terms (r.num *ℤ negsuc 0) (r.den *ℤ pos 1)) h.is.stands (omega (arith, ints)) made);
      lowest = IsLowest-lowest_terms (r.num *ℤ negsuc 0) (r.den *ℤ pos 1) (subst (λ z. pos 0 <ℤ z) (sym (once r.den)) h.is.lowest.positive);
    }
