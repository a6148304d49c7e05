-- A calm question of relations: the test of spots of small numbers, and of the multiples of their
-- differences, stays within 128 bits.
use Rattle.std.proofs.Common.{◌≡◌, ℕ, zero, suc, ◌+◌, ◌*◌, ◌^◌, ◌<◌, ◌≤◌, Bool, true, false, cond, List, [], ◌∷◌, length, get_or, Result, Ok, refl, sym, ap, subst, ◌∙◌, arith, ℤ, pos, ◌+ℤ◌, ◌*ℤ◌, ◌<ℤ◌}
use Rattle.std.specs.Prelude.{unsigned_abs, ◌&&◌, ◌==◌, nat_lt, nat_eq}
use Rattle.std.specs.List.{AllByRecursion, zip}
use Rattle.std.specs.Map.{keys_of}
use Rattle.std.specs.Ordering.{int_eq}
use Rattle.std.proofs.lemmas.Bool.{eqb-true}
use Rattle.std.proofs.lemmas.List.Elements.{recursion_from_All}
use Rattle.std.proofs.Math.IntN.{zero-*ℤ}
use Rattle.items.specs.Gives.{◌>>=◌}
use Rattle.items.proofs.Gives.{on_ok}
use Rattle.whole_numbers.specs.declared.wide.Wide as Step
use Rattle.whole_numbers.specs.Fits.{product_of}
use Rattle.whole_numbers.proofs.Ring.{*ℤ-positive, product_of-value, unsigned_abs-+ℤ}
use Rattle.linear_terms.specs.declared.col.Col.{Col}
use Rattle.linear_terms.specs.declared.row.Row.{Row}
use Rattle.linear_terms.specs.Polynomial.{Terms, Polynomial, IsCanonical}
use Rattle.linear_terms.specs.Row.{is_within}
use Rattle.farkas_check.specs.Kept.{IsCanonicalChange, IsCanonicalStratum}
use Rattle.farkas_check.specs.Points.{ratio_at, ratio_value, meets}
use Rattle.farkas_check.specs.Rational.{terms_at}
use Rattle.farkas_check.specs.Ratios.{Fraction, IsLowest, whole, lowest_terms, ratio_product, ratio_sum}
use Rattle.farkas_check.specs.Relations.{entry, stratum_columns, case_monos}
use Rattle.farkas_check.specs.Stratum.{all_of, rows_of, terms_of, spot_value, tested_spot, spot_side, spots_from, is_exactly, unit_at, unit_test_at, tested_unit, tested_free}
use Rattle.farkas_check.specs.declared.stratum.Change.{Change}
use Rattle.farkas_check.specs.declared.stratum.Spot.{Spot}
use Rattle.farkas_check.proofs.Farkas.{bool_ok, both_true}
use Rattle.farkas_check.proofs.Lowest.{positive-lowest_terms, IsLowest-lowest_terms, IsLowest-whole}
use Rattle.farkas_check.proofs.PointValues.{Stands-lowest}
use Rattle.farkas_check.proofs.Spreads.{AreAmong}
use Rattle.farkas_check.proofs.Vanishing.{IsCaseAmong, cases_among}
use Rattle.farkas_check.proofs.Walks.{IsOrdered, IsOrdered-columns}
use Rattle.simplex.specs.Calm.{IsSmallLine}
use Rattle.simplex.specs.SmallBasis.{AreAtMost, IsPartOf, IsSmallSpot, IsSmallUnitList}
use Rattle.simplex.specs.Spots.{IsSpotLine, AreSpotLines, unit_multiple, multiples_from}
use Rattle.simplex.proofs.Calmness.{small_frame}
use Rattle.simplex.proofs.CalmTies.{IsSmallCase, both-fit, second-fits, all_of-fits, then-value}
use Rattle.simplex.proofs.Denominators.{AreLowest, AreNumerators, numerators_of, denominator-positive}
use Rattle.simplex.proofs.Small.{HasValue, product-small, product_of-fits}
use Rattle.simplex.proofs.RowCorners.{numbered, each_row, all_at}
use Rattle.simplex.proofs.Tame.{IsSmallPoly, small_poly, own_small, ratio_each, numbered_small}
use Rattle.simplex.proofs.Units.{IsPositiveAt, sides_at, sides-lowest, part_stands}
use Rattle.simplex.proofs.Widths.{IsRatio, IsRatio-nothing, IsShare, shared, factor_small, sum-ratio, value-ratio}

-- ---- spots

part-ratio : (r : Fraction) (numerator over : ℤ) → IsPartOf r numerator over → IsRatio r numerator over
part-ratio r numerator over k = record { stands = record { same = k.same; positive = k.lowest.positive }; lowest = k.lowest }

products-size : (m n : ℕ) (x : List Col → ℤ) (ts : Terms) → ((c : List Col) → unsigned_abs (x c) ≤ n) → AllByRecursion (λ t. unsigned_abs t.1 ≤ m) ts → AllByRecursion (λ t. unsigned_abs (t.1 *ℤ x t.0) ≤ m * n) ts
products-size m n x [] f h = tt
products-size m n x (t ∷ ts) f h = (product-small m n t.1 (x t.0) h.0 (f t.0), products-size m n x ts f h.1)

-- the value of a polynomial of small numbers at a spot
spot_value-fits : (cs : List (List Col)) (spot : Spot) (p : Polynomial) → length spot.at ≡ length cs → length cs < 2 ^ 64 → IsSmallSpot spot → IsSmallPoly 1048576 cs p → HasValue (spot_value cs spot p)
spot_value-fits cs spot p each few s poly = value_of
    (value-ratio (ratio_at cs spot.at) (numbered cs s.numerators) s.over (1048576 * 2199023255552) p s.above (λ m. ratio_each cs spot.at s.numerators s.over m each (λ j h. part-ratio (get_or spot.at j (whole (pos 0))) (s.numerators j) s.over (s.are j (inside j h))))
    (products-size 1048576 2199023255552 (numbered cs s.numerators) p.terms (λ m. numbered_small 2199023255552 cs s.numerators m (λ j h. s.small j (inside j h))) poly.terms)
    (let g : unsigned_abs (p.rest *ℤ s.over) ≤ 1048576 * 1099511627776 = product-small 1048576 1099511627776 p.rest s.over poly.rest s.over_small in omega (arith, g))
    (let many : length p.terms ≤ length cs = poly.few in omega (arith, many, few))
    (let g : unsigned_abs s.over ≤ 1099511627776 = s.over_small in omega (arith, g)))
  where
    inside : (j : ℕ) → j < length cs → j < length spot.at
    inside j h = subst (λ (n : ℕ). j < n) (sym each) h

    value_of : ((r : Fraction) × ((ratio_value (ratio_at cs spot.at) p ≡ Ok r) × IsRatio r (terms_at (numbered cs s.numerators) p.terms +ℤ p.rest *ℤ s.over) s.over)) → HasValue (spot_value cs spot p)
    value_of v = (v.0, v.1.0)

meets-fits : (value : Polynomial → Result Fraction Step.Wide) (rows : List Row) → AllByRecursion (λ (row : Row). HasValue (value row.poly)) rows → HasValue (meets value rows)
meets-fits value [] h = (true, refl)
meets-fits value (row ∷ rows) h =
    both-fit (value row.poly >>= λ v. bool_ok (is_within row.kind v.num)) (meets value rows)
    (then-value (value row.poly) (λ v. bool_ok (is_within row.kind v.num)) h.0.0 h.0.1 (is_within row.kind h.0.0.num, refl)) (meets-fits value rows h.1)

-- the rows of a case have small numbers
rows_small : (cs : List (List Col)) (case : Change) → IsOrdered cs → IsCanonicalChange case → IsCaseAmong cs case → IsSmallCase cs case → AllByRecursion (λ (row : Row). IsSmallPoly 1048576 cs row.poly) case.rows
rows_small cs case ordered canonical among k = each_row (λ (row : Row). IsSmallPoly 1048576 cs row.poly) case.rows
    (λ l row here. small_poly 1048576 cs case.rows l row ordered (own_small 1048576 cs case.rows (small_frame 1048576 cs case.rows k.calm)) here
    (all_at (λ (r : Row). IsCanonical r.poly.terms) case.rows l row (recursion_from_All (λ (r : Row). IsCanonical r.poly.terms) case.rows canonical.rows) here)
    (all_at (λ (r : Row). AreAmong (keys_of r.poly.terms) cs) case.rows l row among.rows here))

found_rows : (P : Row → Type 0) (cases : List Change) (place : ℕ) → AllByRecursion (λ (case : Change). AllByRecursion P case.rows) cases → AllByRecursion P (rows_of cases place)
found_rows P [] place h = tt
found_rows P (case ∷ cases) zero h = h.0
found_rows P (case ∷ cases) (suc place) h = found_rows P cases place h.1

all_rows_small : (cs : List (List Col)) (cases : List Change) → IsOrdered cs → AllByRecursion IsCanonicalChange cases → AllByRecursion (IsCaseAmong cs) cases → AllByRecursion (IsSmallCase cs) cases → AllByRecursion (λ (case : Change). AllByRecursion (λ (row : Row). IsSmallPoly 1048576 cs row.poly) case.rows) cases
all_rows_small cs [] ordered k a s = tt
all_rows_small cs (case ∷ cases) ordered k a s = (rows_small cs case ordered k.0 a.0 s.0, all_rows_small cs cases ordered k.1 a.1 s.1)

each_value : (cs : List (List Col)) (spot : Spot) (rows : List Row) → length spot.at ≡ length cs → length cs < 2 ^ 64 → IsSmallSpot spot → AllByRecursion (λ (row : Row). IsSmallPoly 1048576 cs row.poly) rows → AllByRecursion (λ (row : Row). HasValue (spot_value cs spot row.poly)) rows
each_value cs spot [] each few s h = tt
each_value cs spot (row ∷ rows) each few s h = (spot_value-fits cs spot row.poly each few s h.0, each_value cs spot rows each few s h.1)

spot-fits : (cases : List Change) (lower : List Polynomial) (spot : Spot) → IsCanonicalStratum cases lower → AllByRecursion (IsSmallCase (stratum_columns cases lower)) cases → length (stratum_columns cases lower) < 2 ^ 64 → IsSmallSpot spot → HasValue (tested_spot (stratum_columns cases lower) cases spot)
spot-fits cases lower spot k small few s =
    second-fits (nat_lt spot.case (length cases) && length spot.at == length (stratum_columns cases lower)) (meets (spot_value (stratum_columns cases lower) spot) (rows_of cases spot.case))
    (λ e. meets-fits (spot_value (stratum_columns cases lower) spot) (rows_of cases spot.case)
    (each_value (stratum_columns cases lower) spot (rows_of cases spot.case) (eqb-true (length spot.at) (length (stratum_columns cases lower)) (both_true (nat_lt spot.case (length cases)) (length spot.at == length (stratum_columns cases lower)) e).1) few s
    (found_rows (λ (row : Row). IsSmallPoly 1048576 (stratum_columns cases lower) row.poly) cases spot.case
    (all_rows_small (stratum_columns cases lower) cases (IsOrdered-columns (case_monos cases lower)) (recursion_from_All IsCanonicalChange cases k.cases_too) (cases_among cases lower) small))))

pub spots-fit : (cases : List Change) (lower : List Polynomial) (spots : List Spot) → IsCanonicalStratum cases lower → AllByRecursion (IsSmallCase (stratum_columns cases lower)) cases → length (stratum_columns cases lower) < 2 ^ 64 → AllByRecursion IsSmallSpot spots
    → AllByRecursion (λ (spot : Spot). HasValue (tested_spot (stratum_columns cases lower) cases spot)) spots
spots-fit cases lower [] k small few s = tt
spots-fit cases lower (spot ∷ spots) k small few s = (spot-fits cases lower spot k small few s.0, spots-fit cases lower spots k small few s.1)

-- ---- a spot's value at an unknown

numerator-at : (m : ℤ) (rs : List Fraction) (ns : List ℤ) (j : ℕ) → AreNumerators m rs ns → (get_or rs j (whole (pos 0))).num *ℤ m ≡ entry ns j *ℤ (get_or rs j (whole (pos 0))).den
numerator-at m [] ns j a = zero-*ℤ m ∙ subst (λ (zs : List ℤ). pos 0 ≡ entry zs j *ℤ pos 1) (sym a) refl
numerator-at m (r ∷ rs) [] j a = absurd a
numerator-at m (r ∷ rs) (n ∷ ns) zero a = sym a.0
numerator-at m (r ∷ rs) (n ∷ ns) (suc j) a = numerator-at m rs ns j a.1

lowest_at : (rs : List Fraction) (j : ℕ) → AreLowest rs → IsLowest (get_or rs j (whole (pos 0)))
lowest_at [] j l = IsLowest-whole (pos 0)
lowest_at (r ∷ rs) zero l = l.0
lowest_at (r ∷ rs) (suc j) l = lowest_at rs j l.1

-- the number of the spot's line there, over the number by which the values were multiplied
record HasSideValue (cs : List (List Col)) (cases : List Change) (lower : List Polynomial) (spot : Spot) (line : List ℤ) (scale : ℤ) (other : ℕ) : Type 0 where
  value : Fraction
  is : spot_side cs cases lower spot other ≡ Ok value
  ratio : IsRatio value (entry line other) scale
  above : pos 0 <ℤ scale

side-fits : (cs : List (List Col)) (cases : List Change) (lower : List Polynomial) (spot : Spot) (line : List ℤ) (scale : ℤ) (other : ℕ) → IsPositiveAt (ratio_at cs spot.at) → IsSpotLine cs spot.at (terms_of cases spot.case) lower line scale → HasSideValue cs cases lower spot line scale other
unfolding spot_side
side-fits cs cases lower spot line scale other positive is = record {
  value = get_or is.values other (whole (pos 0));
  is = sides_at cs spot.at (terms_of cases spot.case) lower is.values is.are other;
  ratio = record {
    stands = record { same = numerator-at scale is.values line other (numerators_of is.values scale line lowest is.scale_is is.line_is); positive = (lowest_at is.values other lowest).positive };
    lowest = lowest_at is.values other lowest;
  };
  above = denominator-positive is.values scale lowest is.scale_is;
}
  where
    lowest : AreLowest is.values
    lowest = sides-lowest cs spot.at (terms_of cases spot.case) lower is.values positive is.are

-- ---- sums of multiples of spots' values

-- a spot's value times its multiple
part-fits : (x unit scale own : ℤ) (v : Fraction) → pos 0 <ℤ own → pos 0 <ℤ scale → IsRatio v x scale → unsigned_abs x ≤ 1048576 → unsigned_abs unit ≤ 1048576 → unsigned_abs scale ≤ 1048576 → unsigned_abs own ≤ 1048576
    → (part : Fraction) × ((ratio_product v (lowest_terms (unit *ℤ scale) own) ≡ Ok part) × IsRatio part (unit *ℤ x) own)
part-fits x unit scale own v p q s hx hu hs ho = (lowest_terms (v.num *ℤ by.num) (v.den *ℤ by.den), (made, record { stands = part_stands x unit scale own v (lowest_terms (v.num *ℤ by.num) (v.den *ℤ by.den)) p q s.stands made; lowest = IsLowest-lowest_terms (v.num *ℤ by.num) (v.den *ℤ by.den) (*ℤ-positive v.den by.den s.stands.positive (positive-lowest_terms (unit *ℤ scale) own p)) }))
  where
    by : Fraction
    by = lowest_terms (unit *ℤ scale) own

    f : IsShare v x scale
    f = shared v x scale q s

    g : IsShare (lowest_terms (unit *ℤ scale) own) (unit *ℤ scale) own
    g = shared (lowest_terms (unit *ℤ scale) own) (unit *ℤ scale) own p (record { stands = Stands-lowest (unit *ℤ scale) own (unit *ℤ scale) own p refl; lowest = IsLowest-lowest_terms (unit *ℤ scale) own p })

    num : unsigned_abs (v.num *ℤ by.num) ≤ 1048576 * 1099511627776
    num =
        let product : unsigned_abs (unit *ℤ scale) ≤ 1048576 * 1048576 = product-small 1048576 1048576 unit scale hu hs in
        let first : unsigned_abs v.num ≤ unsigned_abs x = factor_small v.num f.times x f.positive f.num in
        let second : unsigned_abs (lowest_terms (unit *ℤ scale) own).num ≤ unsigned_abs (unit *ℤ scale) = factor_small (lowest_terms (unit *ℤ scale) own).num g.times (unit *ℤ scale) g.positive g.num in
        product-small 1048576 1099511627776 v.num (lowest_terms (unit *ℤ scale) own).num (omega (arith, first, hx)) (omega (arith, second, product))

    den : unsigned_abs (v.den *ℤ by.den) ≤ 1048576 * 1048576
    den =
        let first : unsigned_abs v.den ≤ unsigned_abs scale = factor_small v.den f.times scale f.positive f.den in
        let second : unsigned_abs (lowest_terms (unit *ℤ scale) own).den ≤ unsigned_abs own = factor_small (lowest_terms (unit *ℤ scale) own).den g.times own g.positive g.den in
        product-small 1048576 1048576 v.den (lowest_terms (unit *ℤ scale) own).den (omega (arith, first, hs)) (omega (arith, second, ho))

    ratio_ok : Fraction → Result Fraction Step.Wide
    ratio_ok r = Ok r

    made : ratio_product v (lowest_terms (unit *ℤ scale) own) ≡ Ok (lowest_terms (v.num *ℤ (lowest_terms (unit *ℤ scale) own).num) (v.den *ℤ (lowest_terms (unit *ℤ scale) own).den))
    made =
        ap (λ (r : Result ℤ Step.Wide). r >>= λ top. product_of v.den (lowest_terms (unit *ℤ scale) own).den >>= λ bottom. ratio_ok (lowest_terms top bottom)) (product_of-fits v.num (lowest_terms (unit *ℤ scale) own).num (let h = num in omega (arith, h)))
        ∙ ap (λ (r : Result ℤ Step.Wide). r >>= λ bottom. ratio_ok (lowest_terms (v.num *ℤ (lowest_terms (unit *ℤ scale) own).num) bottom)) (product_of-fits v.den (lowest_terms (unit *ℤ scale) own).den (let h = den in omega (arith, h)))

-- the multiple that a line gives for a spot
multiple-is : (line : List ℤ) (own : ℤ) (place : ℕ) (scale : ℤ) (q : Fraction) → unit_multiple line own place scale ≡ Ok q → q ≡ lowest_terms (entry line place *ℤ scale) own
multiple-is line own place scale q f =
    on_ok (product_of (entry line place) scale) (λ n. ratio_ok (lowest_terms n own)) q f
    (λ n g h. let same : lowest_terms n own ≡ q = cc in sym same ∙ ap (λ z. lowest_terms z own) (product_of-value (entry line place) scale n g))
  where
    ratio_ok : Fraction → Result Fraction Step.Wide
    ratio_ok r = Ok r

-- the result is a ratio whose denominator is at most 2 ^ 20
abbrev HasSmallBottom : Result Fraction Step.Wide → Type 0
HasSmallBottom r = (q : Fraction) × ((r ≡ Ok q) × (unsigned_abs q.den ≤ 1048576))

bottom_small : (r : Fraction) (x own : ℤ) → pos 0 <ℤ own → unsigned_abs own ≤ 1048576 → IsRatio r x own → unsigned_abs r.den ≤ 1048576
bottom_small r x own p h s = of_share (shared r x own p s)
  where
    of_share : IsShare r x own → unsigned_abs r.den ≤ 1048576
    of_share f = let g : unsigned_abs r.den ≤ unsigned_abs own = factor_small r.den f.times own f.positive f.den in omega (arith, g, h)

-- a sum so far with one more part
more-fits : (x y own : ℤ) (b : ℕ) (total part : Fraction) → pos 0 <ℤ own → unsigned_abs own ≤ 1048576 → IsRatio total x own → IsRatio part y own → unsigned_abs x ≤ b → unsigned_abs y ≤ 1099511627776 → b + 1099511627776 < 2 ^ 127 → (next : Fraction) × ((ratio_sum total part ≡ Ok next) × IsRatio next (x +ℤ y) own)
more-fits x y own b total part p ho s t hx hy room =
    let sum : unsigned_abs (x +ℤ y) ≤ unsigned_abs x + unsigned_abs y = unsigned_abs-+ℤ x y in
    sum-ratio x y own total part p s t (omega (arith, hx, room)) (omega (arith, hy, room)) (omega (arith, sum, hx, hy, room)) (omega (arith, ho))

units-fit : (cs : List (List Col)) (cases : List Change) (lower : List Polynomial) (other place : ℕ) (line : List ℤ) (own x : ℤ) (b : ℕ) (total : Fraction) (spots : List Spot) (lines : List (List ℤ)) (scales : List ℤ) (by : List Fraction)
    → pos 0 <ℤ own → unsigned_abs own ≤ 1048576 → IsSmallLine 1048576 line → AllByRecursion (λ (spot : Spot). IsPositiveAt (ratio_at cs spot.at)) spots → AreSpotLines cs cases lower spots lines scales → AllByRecursion (IsSmallLine 1048576) lines → AreAtMost 1048576 scales
    → multiples_from line own place scales ≡ Ok by → IsRatio total x own → unsigned_abs x ≤ b → b + length spots * 1099511627776 < 2 ^ 127
    → HasSmallBottom (spots_from (λ spot. spot_side cs cases lower spot other) total spots by)
units-fit cs cases lower other place line own x b total [] lines scales by p ho hl positive are ls ss m s hx room = (total, (refl, bottom_small total x own p ho s))
units-fit cs cases lower other place line own x b total (spot ∷ spots) [] scales by p ho hl positive are ls ss m s hx room = absurd are
units-fit cs cases lower other place line own x b total (spot ∷ spots) (l ∷ lines) [] by p ho hl positive are ls ss m s hx room = absurd are
units-fit cs cases lower other place line own x b total (spot ∷ spots) (l ∷ lines) (scale ∷ scales) by p ho hl positive are ls ss m s hx room =
    on_ok (unit_multiple line own place scale) (λ q. multiples_from line own (place + 1) scales >>= λ others. ratios_ok (q ∷ others)) by m
    (λ q f g. on_ok (multiples_from line own (place + 1) scales) (λ others. ratios_ok (q ∷ others)) by g
    (λ others h i. let same : q ∷ others ≡ by = cc in
    subst (λ (rs : List Fraction). HasSmallBottom (spots_from (λ spot. spot_side cs cases lower spot other) total (spot ∷ spots) rs)) same
    (first q others (multiple-is line own place scale q f) (side-fits cs cases lower spot l scale other positive.0 are.0)
    (λ next t k. units-fit cs cases lower other (place + 1) line own (x +ℤ entry line place *ℤ entry l other) (b + 1099511627776) next spots lines scales others p ho hl positive.1 are.1 ls.1 ss.1 h t k (omega (arith, room, more))))))
  where
    ratios_ok : List Fraction → Result (List Fraction) Step.Wide
    ratios_ok rs = Ok rs

    more : suc (length spots) * 1099511627776 ≡ length spots * 1099511627776 + 1099511627776
    more = omega arith

    product : unsigned_abs (entry line place *ℤ entry l other) ≤ 1048576 * 1048576
    product = product-small 1048576 1048576 (entry line place) (entry l other) (hl place) (ls.0 other)

    size : unsigned_abs (x +ℤ entry line place *ℤ entry l other) ≤ b + 1099511627776
    size = let sum : unsigned_abs (x +ℤ entry line place *ℤ entry l other) ≤ unsigned_abs x + unsigned_abs (entry line place *ℤ entry l other) = unsigned_abs-+ℤ x (entry line place *ℤ entry l other) in let h = product in omega (arith, sum, h, hx)

    first : (q : Fraction) (others : List Fraction) → q ≡ lowest_terms (entry line place *ℤ scale) own → HasSideValue cs cases lower spot l scale other
        → ((next : Fraction) → IsRatio next (x +ℤ entry line place *ℤ entry l other) own → unsigned_abs (x +ℤ entry line place *ℤ entry l other) ≤ b + 1099511627776 → HasSmallBottom (spots_from (λ spot. spot_side cs cases lower spot other) next spots others))
        → HasSmallBottom (spots_from (λ spot. spot_side cs cases lower spot other) total (spot ∷ spots) (q ∷ others))
    first q others is v again = second (part-fits (entry l other) (entry line place) scale own v.value p v.above v.ratio (ls.0 other) (hl place) ss.0 ho)
      where
        second : ((part : Fraction) × ((ratio_product v.value (lowest_terms (entry line place *ℤ scale) own) ≡ Ok part) × IsRatio part (entry line place *ℤ entry l other) own)) → HasSmallBottom (spots_from (λ spot. spot_side cs cases lower spot other) total (spot ∷ spots) (q ∷ others))
        second part = third (more-fits x (entry line place *ℤ entry l other) own b total part.0 p ho s part.1.1 hx (let h = product in omega (arith, h)) (omega (arith, room, more)))
          where
            third : ((next : Fraction) × ((ratio_sum total part.0 ≡ Ok next) × IsRatio next (x +ℤ entry line place *ℤ entry l other) own)) → HasSmallBottom (spots_from (λ spot. spot_side cs cases lower spot other) total (spot ∷ spots) (q ∷ others))
            third next = last (again next.0 next.1.1 size)
              where
                steps : spots_from (λ spot. spot_side cs cases lower spot other) total (spot ∷ spots) (q ∷ others) ≡ spots_from (λ spot. spot_side cs cases lower spot other) next.0 spots others
                steps =
                    ap (λ (r : Result Fraction Step.Wide). r >>= λ w. ratio_product w q >>= λ made. ratio_sum total made >>= λ sum. spots_from (λ spot. spot_side cs cases lower spot other) sum spots others) v.is
                    ∙ ap (λ (r : Result Fraction Step.Wide). r >>= λ made. ratio_sum total made >>= λ sum. spots_from (λ spot. spot_side cs cases lower spot other) sum spots others) (ap (λ (y : Fraction). ratio_product v.value y) is ∙ part.1.0)
                    ∙ ap (λ (r : Result Fraction Step.Wide). r >>= λ sum. spots_from (λ spot. spot_side cs cases lower spot other) sum spots others) next.1.0

                last : HasSmallBottom (spots_from (λ spot. spot_side cs cases lower spot other) next.0 spots others) → HasSmallBottom (spots_from (λ spot. spot_side cs cases lower spot other) total (spot ∷ spots) (q ∷ others))
                last w = (w.0, (steps ∙ w.1.0, w.1.1))

-- ---- unknowns that are no pivot

unit_at-small : (place other : ℕ) → unsigned_abs (unit_at place other) ≤ 1
unit_at-small place other = go (nat_eq other place)
  where
    go : (b : Bool) → unsigned_abs (cond b (pos 1) (pos 0)) ≤ 1
    go true = omega arith
    go false = omega arith

exactly-fits : (r : Fraction) (number : ℤ) → unsigned_abs r.den ≤ 1048576 → unsigned_abs number ≤ 1 → HasValue (is_exactly r number)
exactly-fits r number h k =
    let small : unsigned_abs (number *ℤ r.den) ≤ 1 * 1048576 = product-small 1 1048576 number r.den k h in
    then-value (product_of number r.den) (λ right. bool_ok (int_eq r.num right)) (number *ℤ r.den) (product_of-fits number r.den (omega (arith, small))) (int_eq r.num (number *ℤ r.den), refl)

-- spots with their lines under the unknowns, whose numbers are small
pub record AreSmallSpots (cs : List (List Col)) (cases : List Change) (lower : List Polynomial) (spots : List Spot) (lines : List (List ℤ)) (scales : List ℤ) : Type 0 where
  pub few : length spots < 2 ^ 61
  pub positive : AllByRecursion (λ (spot : Spot). IsPositiveAt (ratio_at cs spot.at)) spots
  pub are : AreSpotLines cs cases lower spots lines scales
  pub lines_small : AllByRecursion (IsSmallLine 1048576) lines
  pub scales_small : AreAtMost 1048576 scales

unit-fits : (cs : List (List Col)) (cases : List Change) (lower : List Polynomial) (count : ℕ) (spots : List Spot) (lines : List (List ℤ)) (scales : List ℤ) (others : List ℕ) (place : ℕ) (by : List Fraction) → AreSmallSpots cs cases lower spots lines scales → IsSmallUnitList count scales by
    → HasValue (tested_unit (spot_side cs cases lower) spots others place by)
unit-fits cs cases lower count spots lines scales others place by k u =
    second-fits (length by == length spots) (all_of (unit_test_at (spot_side cs cases lower) spots place by) others) (λ e. all_of-fits (unit_test_at (spot_side cs cases lower) spots place by) others (each others))
  where
    at : (other : ℕ) → HasValue (unit_test_at (spot_side cs cases lower) spots place by other)
    at other = after (units-fit cs cases lower other count u.line u.own (pos 0) 0 (whole (pos 0)) spots lines scales by u.above u.own_small u.line_small k.positive k.are k.lines_small k.scales_small u.is (IsRatio-nothing u.own) (omega arith) (let few : length spots < 2 ^ 61 = k.few in omega (arith, few)))
      where
        after : HasSmallBottom (spots_from (λ spot. spot_side cs cases lower spot other) (whole (pos 0)) spots by) → HasValue (unit_test_at (spot_side cs cases lower) spots place by other)
        after total =
            then-value (spots_from (λ spot. spot_side cs cases lower spot other) (whole (pos 0)) spots by) (λ sum. is_exactly sum (unit_at place other)) total.0 total.1.0 (exactly-fits total.0 (unit_at place other) total.1.1 (unit_at-small place other))

    each : (xs : List ℕ) → AllByRecursion (λ (other : ℕ). HasValue (unit_test_at (spot_side cs cases lower) spots place by other)) xs
    each [] = tt
    each (x ∷ xs) = (at x, each xs)

pub free-fits : (cs : List (List Col)) (cases : List Change) (lower : List Polynomial) (count : ℕ) (spots : List Spot) (lines : List (List ℤ)) (scales : List ℤ) (others : List ℕ) (free : List (List Fraction)) → AreSmallSpots cs cases lower spots lines scales → AllByRecursion (IsSmallUnitList count scales) free
    → HasValue (tested_free (spot_side cs cases lower) spots others free)
free-fits cs cases lower count spots lines scales others free k u =
    second-fits (length free == length others) (all_of (λ (p : ℕ × List Fraction). tested_unit (spot_side cs cases lower) spots others p.0 p.1) (zip others free)) (λ e. all_of-fits (λ (p : ℕ × List Fraction). tested_unit (spot_side cs cases lower) spots others p.0 p.1) (zip others free) (each others free u))
  where
    each : (us : List ℕ) (ls : List (List Fraction)) → AllByRecursion (IsSmallUnitList count scales) ls → AllByRecursion (λ (p : ℕ × List Fraction). HasValue (tested_unit (spot_side cs cases lower) spots others p.0 p.1)) (zip us ls)
    each [] ls h = tt
    each (place ∷ us) [] h = tt
    each (place ∷ us) (by ∷ ls) h = (unit-fits cs cases lower count spots lines scales others place by k h.0, each us ls h.1)
