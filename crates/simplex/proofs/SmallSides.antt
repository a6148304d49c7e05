-- The values of terms at a point of a calm case stay within 128 bits.
use Rattle.std.proofs.Common.{◌≡◌, ℕ, ◌+◌, ◌*◌, ◌^◌, ◌<◌, ◌≤◌, List, [], ◌∷◌, length, Result, Ok, ap, ◌∙◌, arith, ℤ, negsuc, ◌+ℤ◌, ◌*ℤ◌}
use Rattle.std.specs.Prelude.{unsigned_abs}
use Rattle.std.specs.List.{AllByRecursion}
use Rattle.items.specs.Gives.{◌>>=◌}
use Rattle.whole_numbers.specs.declared.wide.Wide as Step
use Rattle.whole_numbers.proofs.Ring.{unsigned_abs-+ℤ}
use Rattle.linear_terms.specs.declared.col.Col.{Col}
use Rattle.linear_terms.specs.Polynomial.{Terms, Polynomial}
use Rattle.farkas_check.specs.Points.{ratio_at, ratio_value, slope_at}
use Rattle.farkas_check.specs.Rational.{terms_at}
use Rattle.farkas_check.specs.Ratios.{Fraction, whole, ratio_product}
use Rattle.farkas_check.specs.Sizes.{HasNumbersUpTo}
use Rattle.farkas_check.specs.Stratum.{minus_value}
use Rattle.farkas_check.proofs.Differences.{IsOver}
use Rattle.farkas_check.proofs.Walks.{IsOrdered}
use Rattle.simplex.proofs.Numerators.{IsRatioBelow, HasValueWith, minus-with}
use Rattle.simplex.proofs.Small.{product-small}
use Rattle.simplex.proofs.SmallPoints.{IsSmallPoint}
use Rattle.simplex.proofs.RowCorners.{numbered}
use Rattle.simplex.proofs.Tame.{few_terms, ratio_each, numbered_small}
use Rattle.simplex.proofs.Widths.{IsRatio, EachRatio, slope-ratio, value-ratio}

term_products : (m n : ℕ) (x : List Col → ℤ) (ts : Terms) → ((c : List Col) → unsigned_abs (x c) ≤ n) → AllByRecursion (λ t. unsigned_abs t.1 ≤ m) ts → AllByRecursion (λ t. unsigned_abs (t.1 *ℤ x t.0) ≤ m * n) ts
term_products m n x [] f h = tt
term_products m n x (t ∷ ts) f h = (product-small m n t.1 (x t.0) h.0 (f t.0), term_products m n x ts f h.1)

-- the value of a polynomial of small numbers at a point of small numbers
pub value_below : (cs : List (List Col)) (at : List Fraction) (p : Polynomial) → IsOrdered cs → length cs < 2 ^ 64 → (h : IsSmallPoint cs 1099511627776 at) → IsOver cs p → HasNumbersUpTo 1048576 p → HasValueWith (IsRatioBelow (2 ^ 126) h.over) (ratio_value (ratio_at cs at)) p
value_below cs at p ordered few h is small = with_value (value-ratio (ratio_at cs at) x h.over 2305843009213693952 p h.positive each products rest_small room over_fits)
  where
    x : List Col → ℤ
    x = numbered cs h.number

    each : EachRatio (ratio_at cs at) (numbered cs h.number) h.over
    each m = ratio_each cs at h.number h.over m h.each h.ratio

    sizes : (m : List Col) → unsigned_abs (numbered cs h.number m) ≤ 2199023255552
    sizes m = numbered_small 2199023255552 cs h.number m (λ j g. let k : unsigned_abs (h.number j) ≤ 1099511627776 + 1099511627776 = h.small j g in omega (arith, k))

    products : AllByRecursion (λ t. unsigned_abs (t.1 *ℤ numbered cs h.number t.0) ≤ 2305843009213693952) p.terms
    products = term_products 1048576 2199023255552 (numbered cs h.number) p.terms sizes small.terms

    rest_small : unsigned_abs (p.rest *ℤ h.over) ≤ 2305843009213693952
    rest_small = let g : unsigned_abs (p.rest *ℤ h.over) ≤ 1048576 * 1099511627776 = product-small 1048576 1099511627776 p.rest h.over small.rest h.over_small in omega (arith, g)

    many : length p.terms ≤ length cs
    many = few_terms cs p.terms ordered is.canonical is.among

    room_of : (n : ℕ) → n < 2 ^ 64 → n * 2305843009213693952 + 2305843009213693952 ≤ 2 ^ 126
    room_of n k = omega (arith, k)

    room : length p.terms * 2305843009213693952 + 2305843009213693952 < 2 ^ 127
    room = let k : length p.terms < 2 ^ 64 = omega (arith, many, few) in let g : length p.terms * 2305843009213693952 + 2305843009213693952 ≤ 2 ^ 126 = room_of (length p.terms) k in omega (arith, g)

    over_fits : unsigned_abs h.over < 2 ^ 127
    over_fits = let g : unsigned_abs h.over ≤ 1099511627776 = h.over_small in omega (arith, g)

    bound : unsigned_abs (terms_at (numbered cs h.number) p.terms +ℤ p.rest *ℤ h.over) ≤ 2 ^ 126
    bound = with_slope (slope-ratio (ratio_at cs at) x h.over 2305843009213693952 p h.positive each products (omega (arith, room)) (omega arith) over_fits)
      where
        with_slope : ((r : Fraction) × ((slope_at (ratio_at cs at) p ≡ Ok r) × (IsRatio r (terms_at (numbered cs h.number) p.terms) h.over × (unsigned_abs (terms_at (numbered cs h.number) p.terms) ≤ length p.terms * 2305843009213693952)))) → unsigned_abs (terms_at (numbered cs h.number) p.terms +ℤ p.rest *ℤ h.over) ≤ 2 ^ 126
        with_slope v =
            let size : unsigned_abs (terms_at (numbered cs h.number) p.terms) ≤ length p.terms * 2305843009213693952 = v.1.1.1 in
            let both : unsigned_abs (terms_at (numbered cs h.number) p.terms +ℤ p.rest *ℤ h.over) ≤ unsigned_abs (terms_at (numbered cs h.number) p.terms) + unsigned_abs (p.rest *ℤ h.over) = unsigned_abs-+ℤ (terms_at (numbered cs h.number) p.terms) (p.rest *ℤ h.over) in
            let k : length p.terms < 2 ^ 64 = omega (arith, many, few) in
            let g : length p.terms * 2305843009213693952 + 2305843009213693952 ≤ 2 ^ 126 = room_of (length p.terms) k in omega (arith, size, both, rest_small, g)

    with_value : ((r : Fraction) × ((ratio_value (ratio_at cs at) p ≡ Ok r) × IsRatio r (terms_at (numbered cs h.number) p.terms +ℤ p.rest *ℤ h.over) h.over)) → HasValueWith (IsRatioBelow (2 ^ 126) h.over) (ratio_value (ratio_at cs at)) p
    with_value v = (v.0, (v.1.0, record { number = terms_at (numbered cs h.number) p.terms +ℤ p.rest *ℤ h.over; is = v.1.1; small = bound }))

-- the same times -1
pub minus_below : (cs : List (List Col)) (at : List Fraction) (p : Polynomial) → IsOrdered cs → length cs < 2 ^ 64 → (h : IsSmallPoint cs 1099511627776 at) → IsOver cs p → HasNumbersUpTo 1048576 p → HasValueWith (IsRatioBelow (2 ^ 126) h.over) (minus_value (ratio_value (ratio_at cs at))) p
minus_below cs at p ordered few h is small = with_value (value_below cs at p ordered few h is small)
  where
    with_value : HasValueWith (IsRatioBelow (2 ^ 126) h.over) (ratio_value (ratio_at cs at)) p → HasValueWith (IsRatioBelow (2 ^ 126) h.over) (minus_value (ratio_value (ratio_at cs at))) p
    with_value v = with_minus (minus-with (2 ^ 126) h.over v.0 h.positive (let g : unsigned_abs h.over ≤ 1099511627776 = h.over_small in omega (arith, g)) (omega arith) v.1.1)
      where
        with_minus : ((q : Fraction) × ((ratio_product v.0 (whole (negsuc 0)) ≡ Ok q) × IsRatioBelow (2 ^ 126) h.over q)) → HasValueWith (IsRatioBelow (2 ^ 126) h.over) (minus_value (ratio_value (ratio_at cs at))) p
        with_minus q = (q.0, (ap (λ (r : Result Fraction Step.Wide). r >>= λ u. ratio_product u (whole (negsuc 0))) v.1.0 ∙ q.1.0, q.1.1))
