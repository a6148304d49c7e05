-- The line of a spot is that of its point in the words of calm questions: what is left of the
-- values at the point without their common divisor.
use Rattle.std.proofs.Common.{◌≡◌, ℕ, zero, suc, ◌+◌, ◌<◌, ◌≤◌, List, [], ◌∷◌, ◌++◌, map, length, get_or, refl, sym, ap, subst, ◌∙◌, arith, ⊎_elim, ℤ, pos, negsuc, ◌+ℤ◌, ◌*ℤ◌, ◌<ℤ◌}
use Rattle.std.specs.Prelude.{neg_ℤ, int_div, unsigned_abs}
use Rattle.std.specs.Int.{◌∣◌}
use Rattle.std.proofs.lemmas.Bool.{cases_lt}
use Rattle.std.proofs.lemmas.Nat.Gcd.{dvd-zero}
use Rattle.std.proofs.lemmas.Int.{ints}
use Rattle.std.proofs.Math.IntN.{zero-*ℤ}
use Rattle.whole_numbers.specs.Divisors.{gcd_of_all}
use Rattle.whole_numbers.proofs.CommonDivisors.{DividesEach}
use Rattle.whole_numbers.proofs.Ring.{ring, *ℤ_cancel}
use Rattle.linear_terms.specs.declared.col.Col.{Col}
use Rattle.linear_terms.specs.Polynomial.{Polynomial, coefficient_in}
use Rattle.farkas_check.specs.Calm.{paired_sum, value_at, without_divisor, spot_line}
use Rattle.farkas_check.specs.Frames.{line_of, sum_below}
use Rattle.farkas_check.specs.Points.{ratio_at}
use Rattle.farkas_check.specs.Rational.{RationalPoint, sum_at}
use Rattle.farkas_check.specs.Ratios.{Fraction, whole}
use Rattle.farkas_check.specs.Relations.{entry, Side, sides, side_value}
use Rattle.farkas_check.specs.Stratum.{terms_of}
use Rattle.farkas_check.specs.declared.stratum.Change.{Change}
use Rattle.farkas_check.specs.declared.stratum.Spot.{Spot}
use Rattle.farkas_check.proofs.Differences.{IsOver, AreSidesOver}
use Rattle.farkas_check.proofs.PointValues.{Stands}
use Rattle.farkas_check.proofs.Spreads.{terms_at-spread}
use Rattle.farkas_check.proofs.Walks.{IsOrdered}
use Rattle.simplex.specs.Spots.{IsSpotLine}
use Rattle.simplex.proofs.Apart.{AreStanding, sides-standing, sides-length}
use Rattle.simplex.proofs.Certificates.{sum_below-first}
use Rattle.simplex.proofs.Denominators.{AreLowest, AreNumerators, numerators_of, denominator-positive, numerators-primitive_to}
use Rattle.simplex.proofs.Echelons.{numerator_at}
use Rattle.simplex.proofs.RowTableaux.{after_front, long}
use Rattle.simplex.proofs.LeastShares.{past_zero, HasShare, primitive_share, divides_each, divides_at, divides_factor, factor_divides, divisor_is, quotients_are}
use Rattle.simplex.proofs.SpotFrames.{numerators-length}
use Rattle.simplex.proofs.RowCorners.{numbered, spread-numbered}
use Rattle.simplex.proofs.Units.{sides-lowest}

-- ---- values at a point

-- the numbers of a point, over one denominator
abbrev pub point_of : List (List Col) → List ℤ → (over : ℤ) → pos 0 <ℤ over → RationalPoint
point_of cs numbers over above = record { numerator = numbered cs (λ j. entry numbers j); over = over; positive = above }

paired_sum-is : (cs : List (List Col)) (p : Polynomial) (xs : List ℤ) (d : ℤ) → length xs ≡ length cs → paired_sum (line_of cs p) (xs ++ d ∷ []) ≡ sum_below (length cs) (λ j. coefficient_in p.terms (get_or cs j []) *ℤ entry xs j) +ℤ p.rest *ℤ d
paired_sum-is [] p [] d h = last (p.rest *ℤ d)
  where
    last : (z : ℤ) → z +ℤ pos 0 ≡ pos 0 +ℤ z
    last z = omega (arith, ints)
paired_sum-is [] p (x ∷ xs) d h = absurd (omega (arith, h))
paired_sum-is (c ∷ cs) p [] d h = absurd (omega (arith, h))
paired_sum-is (c ∷ cs) p (x ∷ xs) d h =
    ap (λ z. coefficient_in p.terms c *ℤ x +ℤ z) (paired_sum-is cs p xs d (omega (arith, h)))
    ∙ group (coefficient_in p.terms c *ℤ x) (sum_below (length cs) (λ j. coefficient_in p.terms (get_or cs j []) *ℤ entry xs j)) (p.rest *ℤ d)
    ∙ ap (λ z. z +ℤ p.rest *ℤ d) (sym (sum_below-first (length cs) (λ j. coefficient_in p.terms (get_or (c ∷ cs) j []) *ℤ entry (x ∷ xs) j)))
  where
    group : (a b c : ℤ) → a +ℤ (b +ℤ c) ≡ a +ℤ b +ℤ c
    group a b c = omega (arith, ints)

-- the value of a polynomial at a point, times the denominator
pub value_at-sum : (cs : List (List Col)) (case : ℕ) (numbers : List ℤ) (over : ℤ) (above : pos 0 <ℤ over) (p : Polynomial) → IsOrdered cs → length numbers ≡ length cs → IsOver cs p → value_at cs (record { case = case; over = over; numbers = numbers }) p ≡ sum_at (point_of cs numbers over above) p
value_at-sum cs case numbers over above p ordered many is =
    paired_sum-is cs p numbers over many
    ∙ ap (λ z. z +ℤ p.rest *ℤ over) (sym (terms_at-spread (numbered cs (λ j. entry numbers j)) cs p.terms ordered is.canonical is.among ∙ spread-numbered (coefficient_in p.terms) cs (λ j. entry numbers j) ordered))

-- ---- the line

-- what stands at the unknowns, times the denominator
abbrev side_numbers : RationalPoint → List Side → List ℤ
side_numbers point ss = map (side_value (sum_at point) point.over) ss

lines_level : (point : RationalPoint) (scale : ℤ) (line : List ℤ) (rs : List Fraction) (ss : List Side) → AreStanding point rs ss → AreNumerators scale rs line → length rs ≡ length ss → (j : ℕ) → entry line j *ℤ point.over ≡ entry (side_numbers point ss) j *ℤ scale
lines_level point scale line [] [] st a h j = ap (λ (zs : List ℤ). entry zs j *ℤ point.over) a ∙ zero-*ℤ point.over ∙ sym (zero-*ℤ scale)
lines_level point scale line [] (s ∷ ss) st a h j = absurd (omega (arith, h))
lines_level point scale line (r ∷ rs) [] st a h j = absurd st
lines_level point scale [] (r ∷ rs) (s ∷ ss) st a h j = absurd a
lines_level point scale (z ∷ line) (r ∷ rs) (s ∷ ss) st a h zero =
    *ℤ_cancel (z *ℤ point.over) (side_value (sum_at point) point.over s *ℤ scale) r.den st.0.positive
    (slide z point.over r.den ∙ ap (λ x. x *ℤ point.over) a.0 ∙ slide r.num scale point.over ∙ ap (λ x. x *ℤ scale) st.0.same ∙ slide (side_value (sum_at point) point.over s) r.den scale)
  where
    slide : (a b c : ℤ) → a *ℤ b *ℤ c ≡ a *ℤ c *ℤ b
    slide a b c = simp ring (omega (arith, ints))
lines_level point scale (z ∷ line) (r ∷ rs) (s ∷ ss) st a h (suc j) = lines_level point scale line rs ss st.1 a.1 (omega (arith, h)) j

side_numbers-are : (cs : List (List Col)) (case : ℕ) (numbers : List ℤ) (over : ℤ) (above : pos 0 <ℤ over) (terms lower : List Polynomial) → IsOrdered cs → length numbers ≡ length cs → AreSidesOver cs (sides terms lower)
    → map (value_at cs (record { case = case; over = over; numbers = numbers })) terms ++ (map (λ p. neg_ℤ (value_at cs (record { case = case; over = over; numbers = numbers }) p)) lower ++ neg_ℤ over ∷ []) ≡ side_numbers (point_of cs numbers over above) (sides terms lower)
side_numbers-are cs case numbers over above [] [] ordered many is = refl
side_numbers-are cs case numbers over above [] (p ∷ lower) ordered many is =
    ap (λ z. neg_ℤ z ∷ (map (λ p. neg_ℤ (value_at cs (record { case = case; over = over; numbers = numbers }) p)) lower ++ neg_ℤ over ∷ [])) (value_at-sum cs case numbers over above p ordered many is.0)
    ∙ ap (λ (zs : List ℤ). neg_ℤ (sum_at (point_of cs numbers over above) p) ∷ zs) (side_numbers-are cs case numbers over above [] lower ordered many is.1)
side_numbers-are cs case numbers over above (p ∷ terms) lower ordered many is =
    ap (λ z. z ∷ (map (value_at cs (record { case = case; over = over; numbers = numbers })) terms ++ (map (λ p. neg_ℤ (value_at cs (record { case = case; over = over; numbers = numbers }) p)) lower ++ neg_ℤ over ∷ []))) (value_at-sum cs case numbers over above p ordered many is.0)
    ∙ ap (λ (zs : List ℤ). sum_at (point_of cs numbers over above) p ∷ zs) (side_numbers-are cs case numbers over above terms lower ordered many is.1)

same_count : (f : Side → ℤ) (ss : List Side) → length (map f ss) ≡ length ss
same_count f [] = refl
same_count f (s ∷ ss) = ap (λ (n : ℕ). suc n) (same_count f ss)

last_number : (n scale : ℤ) → n *ℤ pos 1 ≡ negsuc 0 *ℤ scale → n *ℤ negsuc 0 ≡ scale
last_number n scale e = omega (arith, ints, e)

-- the last number of a line is minus its scale
pub record HasLastNumber (line : List ℤ) (scale : ℤ) : Type 0 where
  pub place : ℕ
  pub within : place < length line
  pub is : entry line place *ℤ negsuc 0 ≡ scale

pub last_of : (cs : List (List Col)) (at : List Fraction) (terms lower : List Polynomial) (line : List ℤ) (scale : ℤ) → ((k : IsSpotLine cs at terms lower line scale) → AreLowest k.values → HasLastNumber line scale)
last_of cs at terms lower line scale is lowest = record {
  place = place;
  within = inside;
  is = last_number (entry line place) scale (subst (λ (r : Fraction). entry line place *ℤ r.den ≡ r.num *ℤ scale) at_last (numerator_at scale is.values line place (numerators_of is.values scale line lowest is.scale_is is.line_is) inside));
}
  where
    place : ℕ
    place = length is.are.own + (length is.are.others + 0)

    at_last : get_or is.values place (whole (pos 0)) ≡ whole (negsuc 0)
    at_last =
        ap (λ (rs : List Fraction). get_or rs place (whole (pos 0))) is.are.is
        ∙ after_front is.are.own (is.are.others ++ whole (negsuc 0) ∷ []) (whole (pos 0)) (length is.are.others + 0)
        ∙ after_front is.are.others (whole (negsuc 0) ∷ []) (whole (pos 0)) 0

    inside : place < length line
    inside =
        let e : length is.values ≡ length is.are.own + length (is.are.others ++ whole (negsuc 0) ∷ []) = ap length is.are.is ∙ long is.are.own (is.are.others ++ whole (negsuc 0) ∷ []) in
        let f : length (is.are.others ++ whole (negsuc 0) ∷ []) ≡ length is.are.others + 1 = long is.are.others (whole (negsuc 0) ∷ []) in
        let g : length line ≡ length is.values = numerators-length scale is.values line is.line_is in omega (arith, e, f, g)

pub line_framed : (cs : List (List Col)) (cases : List Change) (lower : List Polynomial) (spot : Spot) (numbers : List ℤ) (over : ℤ) (line : List ℤ) (scale : ℤ) → pos 0 <ℤ over → IsOrdered cs → AreSidesOver cs (sides (terms_of cases spot.case) lower) → length numbers ≡ length cs
    → ((m : List Col) → Stands (ratio_at cs spot.at m) (numbered cs (λ j. entry numbers j) m) over) → IsSpotLine cs spot.at (terms_of cases spot.case) lower line scale
    → line ≡ spot_line cs cases lower (record { case = spot.case; over = over; numbers = numbers })
line_framed cs cases lower spot numbers over line scale above ordered sided many each is =
    sym (ap without_divisor (side_numbers-are cs spot.case numbers over above terms lower ordered many sided) ∙ ap (λ (n : ℕ). map (λ z. int_div z (pos n)) ws) divisor ∙ quotients_are part.by line ws part.above ws_many part.each)
  where
    terms : List Polynomial
    terms = terms_of cases spot.case

    point : RationalPoint
    point = point_of cs numbers over above

    ws : List ℤ
    ws = side_numbers (point_of cs numbers over above) (sides (terms_of cases spot.case) lower)

    lowest : AreLowest is.values
    lowest = sides-lowest cs spot.at (terms_of cases spot.case) lower is.values (λ m. (each m).positive) is.are

    numerators : AreNumerators scale is.values line
    numerators = numerators_of is.values scale line lowest is.scale_is is.line_is

    values_many : length is.values ≡ length (sides (terms_of cases spot.case) lower)
    values_many = sides-length cs spot.at (terms_of cases spot.case) lower is.values is.are

    line_many : length line ≡ length is.values
    line_many = numerators-length scale is.values line is.line_is

    ws_many : length ws ≡ length line
    ws_many = same_count (side_value (sum_at (point_of cs numbers over above)) over) (sides (terms_of cases spot.case) lower) ∙ sym (line_many ∙ values_many)

    last : HasLastNumber line scale
    last = last_of cs spot.at (terms_of cases spot.case) lower line scale is lowest

    primitive : gcd_of_all line ≡ 1
    primitive = numerators-primitive_to is.values scale line last.place (negsuc 0) lowest is.scale_is is.line_is last.within last.is

    level : (j : ℕ) → entry line j *ℤ over ≡ entry ws j *ℤ scale
    level j = lines_level (point_of cs numbers over above) scale line is.values (sides (terms_of cases spot.case) lower) (sides-standing cs spot.at (terms_of cases spot.case) lower is.values (point_of cs numbers over above) each is.are) numerators values_many j

    part : HasShare line (λ j. entry ws j) over scale
    part = primitive_share line (λ j. entry ws j) over scale primitive above (denominator-positive is.values scale lowest is.scale_is) level

    divisor : gcd_of_all ws ≡ part.by
    divisor = divisor_is part.by ws (divides_each part.by ws (λ j h. subst (λ z. part.by ∣ unsigned_abs z) (sym (part.each j)) (factor_divides part.by (entry line j))))
        (λ d e. divides_factor d part.by line part.above primitive (λ j. subst (λ z. d ∣ unsigned_abs z) (part.each j) (at d e j)))
      where
        at : (d : ℕ) → DividesEach d ws → (j : ℕ) → d ∣ unsigned_abs (entry ws j)
        at d e j = ⊎_elim (λ (h : j < length ws). divides_at d ws j h e) (λ (h : length ws ≤ j). subst (λ z. d ∣ unsigned_abs z) (sym (past_zero ws j h)) (dvd-zero d)) (cases_lt j (length ws))
