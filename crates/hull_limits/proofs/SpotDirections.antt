-- Directions between spots of a calm question have small numbers.
use Rattle.std.proofs.Common.{◌≡◌, ℕ, zero, suc, ◌+◌, ◌*◌, ◌/◌, ◌<◌, ◌≤◌, cond, refl, sym, ap, subst, ◌∙◌, arith, List, [], ◌∷◌, ◌++◌, map, length, get_or, nat_eq, ℤ, pos, negsuc, ◌+ℤ◌, ◌*ℤ◌, ◌<ℤ◌}
use Rattle.std.specs.Prelude.{int_div, neg_ℤ, unsigned_abs}
use Rattle.std.specs.Int.{◌∣◌}
use Rattle.std.specs.List.{AllByRecursion}
use Rattle.std.proofs.lemmas.Bool.{eq-eqb, le-ltb, lt-ltb, ne_eqb}
use Rattle.std.proofs.lemmas.Int.{ints, unsigned_abs-mul}
use Rattle.std.proofs.lemmas.Nat.Gcd.{le_of_dvd}
use Rattle.std.proofs.Math.IntN.{*ℤ_comm}
use Rattle.std.proofs.Math.Nat.{div-le_of_le-mul, eq-zero_of_zero-dvd, le_of_mul-le-mul_left, mul-dvd-mul_left, mul-le-mul_left, mul_assoc, mul_comm, mul_left_comm, one-dvd}
use Rattle.items.proofs.Each.{each-both, each-map}
use Rattle.whole_numbers.specs.Divisors.{gcd_of_all}
use Rattle.whole_numbers.proofs.CommonDivisors.{DividesEach, DividesEach-gcd_of_all, gcd_of_all-greatest}
use Rattle.whole_numbers.proofs.Quotients.{int_div-*ℤ, unsigned_abs-int_div}
use Rattle.whole_numbers.proofs.Ring.{ring}
use Rattle.linear_terms.specs.declared.col.Col.{Col}
use Rattle.farkas_check.specs.Calm.{IsSpotOf, SpotPoint, spot_line, value_at}
use Rattle.farkas_check.specs.Frames.{Frame, IsCalmUpTo, IsTableau, line_count, number_in, sum_below, width}
use Rattle.farkas_check.specs.Relations.{entry, places, term_count}
use Rattle.farkas_check.specs.Stratum.{terms_of}
use Rattle.farkas_check.specs.declared.stratum.Change.{Change}
use Rattle.cones.specs.Vectors.{lowest}
use Rattle.cones.proofs.Numbers.{times_zero}
use Rattle.facet_hull.specs.Spots.{TwoSpotsAreATableau, frame_of_two, multiple_of_two}
use Rattle.simplex.proofs.Corners.{single}
use Rattle.hull_limits.proofs.Bounded.{divides_each, each_place}
use Rattle.hull_limits.proofs.Magnitudes.{IsWithin, AreWithin, multiple-divisor, within-places}
use Rattle.hull_limits.proofs.RowBasis.{map-map, mapped-length, unit_columns, unit_columns-length, unit_columns-within}

-- ---- without common divisor

-- numbers that are at most so great over a common divisor of theirs
pub record AreOver (most n : ℕ) (m : ℕ → ℤ) : Type 0 where
  pub divisor : ℕ
  pub bounded : (j : ℕ) → j < n → (unsigned_abs (m j) ≤ most * divisor) × (divisor ∣ unsigned_abs (m j))

multiples-divided : (g : ℕ) (a : ℤ) (z : List ℤ) → ((j : ℕ) → j < length z → g ∣ unsigned_abs (a *ℤ entry z j)) → DividesEach g (map (λ y. a *ℤ y) z)
multiples-divided g a [] h = tt
multiples-divided g a (y ∷ z) h = (h 0 (omega arith), multiples-divided g a z (λ j l. h (suc j) (omega (arith, l))))

-- numbers that are others up to a factor are small without their common divisor
pub lowest-bounded : (most : ℕ) (a b : ℤ) (m : ℕ → ℤ) (z : List ℤ) → 0 < unsigned_abs a → AreOver most (length z) m → ((j : ℕ) → j < length z → a *ℤ entry z j ≡ b *ℤ m j) → AreWithin most (lowest z)
lowest-bounded most a b m z some h e = go (gcd_of_all z) refl
  where
    part : (j : ℕ) → j < length z → (unsigned_abs (a *ℤ entry z j) ≤ most * (unsigned_abs b * h.divisor)) × (unsigned_abs b * h.divisor ∣ unsigned_abs (a *ℤ entry z j))
    part j l =
        let size : unsigned_abs (a *ℤ entry z j) ≡ unsigned_abs b * unsigned_abs (m j) = ap unsigned_abs (e j l) ∙ unsigned_abs-mul b (m j) in
        let up : unsigned_abs b * unsigned_abs (m j) ≤ unsigned_abs b * (most * h.divisor) = mul-le-mul_left (unsigned_abs b) (h.bounded j l).0 in
        (omega (arith, size, up, mul_left_comm (unsigned_abs b) most h.divisor), subst (λ k. unsigned_abs b * h.divisor ∣ k) (sym size) (mul-dvd-mul_left h.divisor (unsigned_abs b) (h.bounded j l).1))

    divides : unsigned_abs b * h.divisor ∣ gcd_of_all z * unsigned_abs a
    divides = subst (λ k. unsigned_abs b * h.divisor ∣ k) (multiple-divisor a z some) (gcd_of_all-greatest (unsigned_abs b * h.divisor) (map (λ y. a *ℤ y) z) (multiples-divided (unsigned_abs b * h.divisor) a z (λ j l. (part j l).1)))

    go : (d : ℕ) → gcd_of_all z ≡ d → AreWithin most (lowest z)
    go zero k = subst (λ w. AreWithin most w) (sym (ap (λ n. cond (nat_eq n 0) z (map (λ y. int_div y (pos n)) z)) k)) (none-within z (subst (λ n. DividesEach n z) k (DividesEach-gcd_of_all z)))
      where
        none-within : (ys : List ℤ) → DividesEach 0 ys → AreWithin most ys
        none-within [] h = tt
        none-within (y ∷ ys) h = (let e : unsigned_abs y ≡ 0 = eq-zero_of_zero-dvd h.0 in omega (arith, e), none-within ys h.1)
    go (suc d) k = subst (λ w. AreWithin most w) (sym (ap (λ n. cond (nat_eq n 0) z (map (λ y. int_div y (pos n)) z)) k ∙ ap (λ t. cond t z (map (λ y. int_div y (pos (suc d))) z)) (ne_eqb (suc d) 0 (λ e. absurd (omega (arith, e)))))) (each-map (IsWithin (most * suc d)) (IsWithin most) (λ y. int_div y (pos (suc d))) quotient z (within-places (most * suc d) z whole))
      where
        quotient : (y : ℤ) → IsWithin (most * suc d) y → IsWithin most (int_div y (pos (suc d)))
        quotient y l = let less : unsigned_abs y / suc d ≤ most = div-le_of_le-mul (suc d) (omega (arith, l, mul_comm (suc d) most)) in omega (arith, less, unsigned_abs-int_div y (suc d))

        least : unsigned_abs b * h.divisor ≤ suc d * unsigned_abs a
        least = le_of_dvd (positive (unsigned_abs a) some) (subst (λ n. unsigned_abs b * h.divisor ∣ n * unsigned_abs a) k divides)
          where
            positive : (n : ℕ) → 0 < n → 0 < suc d * n
            positive zero l = absurd (omega (arith, l))
            positive (suc n) l = omega arith

        whole : (j : ℕ) → j < length z → unsigned_abs (entry z j) ≤ most * suc d
        whole j l =
            let up : most * (unsigned_abs b * h.divisor) ≤ most * (suc d * unsigned_abs a) = mul-le-mul_left most least in
            le_of_mul-le-mul_left (through (unsigned_abs-mul a (entry z j)) (part j l).0 up (mul_comm (unsigned_abs a) (most * suc d)) (assoc most (suc d) (unsigned_abs a))) some
          where
            assoc : (x y z : ℕ) → x * (y * z) ≡ x * y * z
            assoc x y z = sym (mul_assoc x y z)

            through : unsigned_abs (a *ℤ entry z j) ≡ unsigned_abs a * unsigned_abs (entry z j) → unsigned_abs (a *ℤ entry z j) ≤ most * (unsigned_abs b * h.divisor) → most * (unsigned_abs b * h.divisor) ≤ most * (suc d * unsigned_abs a)
                → unsigned_abs a * (most * suc d) ≡ most * suc d * unsigned_abs a → most * (suc d * unsigned_abs a) ≡ most * suc d * unsigned_abs a → unsigned_abs a * unsigned_abs (entry z j) ≤ unsigned_abs a * (most * suc d)
            through p q r s t = omega (arith, p, q, r, s, t)

-- numbers divided by their common divisor, times it
divided-is : (d : ℕ) (v : List ℤ) → DividesEach d v → (j : ℕ) → pos d *ℤ entry (map (λ z. int_div z (pos d)) v) j ≡ entry v j
divided-is d [] h j = times_zero (pos d)
divided-is d (z ∷ v) h zero = *ℤ_comm (pos d) (int_div z (pos d)) ∙ int_div-*ℤ z d h.0
divided-is d (z ∷ v) h (suc j) = divided-is d v h.1 j

-- ---- the unit columns are a tableau

get-mapped : (h : ℕ → ℕ) (n k : ℕ) → k < n → get_or (map h (places n)) k 0 ≡ h k
get-mapped h zero k l = absurd (omega (arith, l))
get-mapped h (suc n) zero l = refl
get-mapped h (suc n) (suc k) l = ap (λ xs. get_or xs k 0) (map-map (λ i. suc i) h (places n)) ∙ get-mapped (λ j. h (suc j)) n k (omega (arith, l))

unit-number : (f : Frame) (line k : ℕ) → number_in f line (f.units + k) ≡ cond (nat_eq (f.units + k) (f.units + line)) (pos 1) (pos 0)
unit-number f line k = ap (λ b. cond b (entry (get_or f.lines line []) (f.units + k)) (cond (nat_eq (f.units + k) (f.units + line)) (pos 1) (pos 0))) (le-ltb (f.units + k) f.units (omega arith))

unit-tableau : (f : Frame) → IsTableau f (unit_columns f) (pos 1) (λ k c. number_in f k c)
unit-tableau f = record {
  each = unit_columns-length f;
  within = unit_columns-within f;
  positive = omega (arith, ints);
  writes = λ line col h k. writes line col h;
}
  where
    writes : (line col : ℕ) → line < line_count f → pos 1 *ℤ number_in f line col ≡ sum_below (line_count f) (λ k. number_in f k col *ℤ number_in f line (get_or (unit_columns f) k 0))
    writes line col h =
        turn (number_in f line col)
        ∙ sym (single (line_count f) (λ k. number_in f k col *ℤ number_in f line (get_or (unit_columns f) k 0)) line h (λ k l n. ap (λ z. number_in f k col *ℤ z) (at k l ∙ ap (λ b. cond b (pos 1) (pos 0)) (ne_eqb (f.units + k) (f.units + line) (λ e. n (omega (arith, e))))) ∙ times_zero (number_in f k col))
        ∙ ap (λ z. number_in f line col *ℤ z) (at line h ∙ ap (λ b. cond b (pos 1) (pos 0)) (eq-eqb (f.units + line) (f.units + line) refl)))
      where
        turn : (z : ℤ) → pos 1 *ℤ z ≡ z *ℤ pos 1
        turn z = omega (arith, ints)

        at : (k : ℕ) → k < line_count f → number_in f line (get_or (unit_columns f) k 0) ≡ cond (nat_eq (f.units + k) (f.units + line)) (pos 1) (pos 0)
        at k l = ap (number_in f line) (get-mapped (λ k. f.units + k) (line_count f) k l) ∙ unit-number f line k

-- the numbers of the lines of a calm frame are small
pub lines-small : (most : ℕ) (f : Frame) → IsCalmUpTo most f → (line col : ℕ) → line < line_count f → col < width f → unsigned_abs (number_in f line col) ≤ most
lines-small most f calm line col h l =
    let up : most * gcd_of_all numbers ≤ most * 1 = mul-le-mul_left most one in
    let own : unsigned_abs (number_in f line col) ≤ most * gcd_of_all numbers = each_place (λ z. unsigned_abs z ≤ most * gcd_of_all numbers) (λ c. number_in f line c) (width f) (calm.lines (unit_columns f) (pos 1) (λ k c. number_in f k c) (unit-tableau f) line h).1 col l in
    omega (arith, up, own)
  where
    numbers : List ℤ
    numbers = pos 1 ∷ map (λ c. number_in f line c) (places (width f))

    one : gcd_of_all (pos 1 ∷ map (λ c. number_in f line c) (places (width f))) ≤ 1
    one = le_of_dvd (omega arith) (DividesEach-gcd_of_all (pos 1 ∷ map (λ c. number_in f line c) (places (width f)))).0

-- ---- two lines

-- the numbers of the direction from one line to another one
abbrev pub between : ℕ → List ℤ → List ℤ → ℕ → ℤ
between place s t j = neg_ℤ (entry s place) *ℤ entry t j +ℤ entry s j *ℤ entry t place

two-over : TwoSpotsAreATableau → (most place : ℕ) (s t : List ℤ) → IsCalmUpTo most (frame_of_two place s t) → entry s place <ℤ pos 0 → AreOver most place (between place s t)
two-over law most place s t calm negative = record { divisor = gcd_of_all numbers; bounded = bounded }
  where
    numbers : List ℤ
    numbers = neg_ℤ (entry s place) ∷ map (λ c. multiple_of_two place s t 1 c) (places (width (frame_of_two place s t)))

    IsDivided : ℤ → Type 0
    IsDivided z = (unsigned_abs z ≤ most * gcd_of_all numbers) × (gcd_of_all numbers ∣ unsigned_abs z)

    all : AllByRecursion IsDivided numbers
    all =
        each-both (λ z. unsigned_abs z ≤ most * gcd_of_all numbers) (λ z. gcd_of_all numbers ∣ unsigned_abs z) numbers
        (calm.lines (place ∷ (place + 2) ∷ []) (neg_ℤ (entry s place)) (multiple_of_two place s t) (law place s t negative) 1 (omega arith)) (divides_each (gcd_of_all numbers) numbers (DividesEach-gcd_of_all numbers))

    bounded : (j : ℕ) → j < place → IsDivided (between place s t j)
    bounded j l = subst IsDivided (ap (λ b. cond b (between place s t j) (cond (nat_eq j (place + 1)) (entry t place) (neg_ℤ (entry s place)))) (lt-ltb j (place + 1) (omega (arith, l)))) (each_place IsDivided (λ c. multiple_of_two place s t 1 c) (width (frame_of_two place s t)) all.1 j (omega (arith, l)))

-- ---- spots

-- a spot of the question with so great a denominator, and with values of the terms
pub record HasSpot (cs : List (List Col)) (cases : List Change) (n : ℕ) (over : ℤ) (values : ℕ → ℤ) : Type 0 where
  pub spot : SpotPoint
  pub is : IsSpotOf cs cases spot
  pub positive : pos 0 <ℤ over
  pub over_is : spot.over ≡ over
  pub many : length (terms_of cases spot.case) ≡ n
  pub values_are : (j : ℕ) → j < n → entry (map (value_at cs spot) (terms_of cases spot.case)) j ≡ values j

entry-front : (xs ys : List ℤ) (j : ℕ) → j < length xs → entry (xs ++ ys) j ≡ entry xs j
entry-front [] ys j l = absurd (omega (arith, l))
entry-front (x ∷ xs) ys zero l = refl
entry-front (x ∷ xs) ys (suc j) l = entry-front xs ys j (omega (arith, l))

entry-last : (xs : List ℤ) (y : ℤ) → entry (xs ++ y ∷ []) (length xs) ≡ y
entry-last [] y = refl
entry-last (x ∷ xs) y = entry-last xs y

module _ (cs : List (List Col)) (cases : List Change) (n : ℕ) where
  -- a spot's values, and minus its denominator
  abbrev line_whole : SpotPoint → List ℤ
  line_whole spot = map (value_at cs spot) (terms_of cases spot.case) ++ neg_ℤ spot.over ∷ []

  whole-divided : (spot : SpotPoint) (j : ℕ) → pos (gcd_of_all (line_whole spot)) *ℤ entry (spot_line cs cases [] spot) j ≡ entry (line_whole spot) j
  whole-divided spot j = divided-is (gcd_of_all (line_whole spot)) (line_whole spot) (DividesEach-gcd_of_all (line_whole spot)) j

  value-divided : (over : ℤ) (values : ℕ → ℤ) → (p : HasSpot cs cases n over values) → (j : ℕ) → j < n → pos (gcd_of_all (line_whole p.spot)) *ℤ entry (spot_line cs cases [] p.spot) j ≡ values j
  value-divided over values p j l =
      whole-divided p.spot j
      ∙ entry-front (map (value_at cs p.spot) (terms_of cases p.spot.case)) (neg_ℤ p.spot.over ∷ []) j (omega (arith, l, p.many, mapped-length (value_at cs p.spot) (terms_of cases p.spot.case)))
      ∙ p.values_are j l

  over-divided : (over : ℤ) (values : ℕ → ℤ) → (p : HasSpot cs cases n over values) → pos (gcd_of_all (line_whole p.spot)) *ℤ entry (spot_line cs cases [] p.spot) n ≡ neg_ℤ over
  over-divided over values p =
      whole-divided p.spot n
      ∙ ap (entry (line_whole p.spot)) (sym (mapped-length (value_at cs p.spot) (terms_of cases p.spot.case) ∙ p.many))
      ∙ entry-last (map (value_at cs p.spot) (terms_of cases p.spot.case)) (neg_ℤ p.spot.over) ∙ ap neg_ℤ p.over_is

  below_none : (d : ℕ) (x over : ℤ) → pos d *ℤ x ≡ neg_ℤ over → pos 0 <ℤ over → x <ℤ pos 0
  below_none d (pos k) over e h = absurd (clash (pos d *ℤ pos k) over (d * k) refl e h)
    where
      clash : (y over : ℤ) (m : ℕ) → y ≡ pos m → y ≡ neg_ℤ over → pos 0 <ℤ over → ⊥
      clash y over m e f h = omega (arith, ints)
  below_none d (negsuc k) over e h = omega (arith, ints)

  -- up to a factor, numbers that are small over a common divisor of theirs
  pub record AreSmallDirections (most : ℕ) (z : ℕ → ℤ) : Type 0 where
    pub factor : ℤ
    pub m : ℕ → ℤ
    pub over : AreOver most n m
    pub are : (j : ℕ) → j < n → z j ≡ factor *ℤ m j

  module _ (law : TwoSpotsAreATableau) (most : ℕ) (count : n ≡ term_count cases) (calm : (spots : List SpotPoint) → length spots ≤ term_count cases + 1 → AllByRecursion (IsSpotOf cs cases) spots → IsCalmUpTo most (record { lines = map (spot_line cs cases []) spots; units = n + 1 })) where
    -- the direction from one spot to another one
    pub spots-direction : (o p : ℤ) (v u : ℕ → ℤ) → HasSpot cs cases n o v → HasSpot cs cases n p u → AreSmallDirections most (λ j. o *ℤ u j +ℤ neg_ℤ p *ℤ v j)
    spots-direction o p v u first second = by_count n refl
      where
        s : List ℤ
        s = spot_line cs cases [] first.spot

        t : List ℤ
        t = spot_line cs cases [] second.spot

        by_count : (k : ℕ) → n ≡ k → AreSmallDirections most (λ j. o *ℤ u j +ℤ neg_ℤ p *ℤ v j)
        by_count zero e = record { factor = pos 1; m = λ j. pos 0; over = record { divisor = 1; bounded = λ j l. absurd (omega (arith, l, e)) }; are = λ j l. absurd (omega (arith, l, e)) }
        by_count (suc k) e = record {
          factor = pos (gcd_of_all (line_whole first.spot)) *ℤ pos (gcd_of_all (line_whole second.spot));
          m = between n s t;
          over = two-over law most n s t (calm (first.spot ∷ second.spot ∷ []) (omega (arith, e, count)) (first.is, (second.is, tt))) (below_none (gcd_of_all (line_whole first.spot)) (entry s n) o (over-divided o v first) first.positive);
          are = λ j l. sym (group (pos (gcd_of_all (line_whole first.spot))) (pos (gcd_of_all (line_whole second.spot))) (entry s n) (entry t j) (entry s j) (entry t n) o (u j) (v j) p (over-divided o v first) (value-divided p u second j l) (value-divided o v first j l) (over-divided p u second));
        }
          where
            group : (g h a b c d o u v p : ℤ) → g *ℤ a ≡ neg_ℤ o → h *ℤ b ≡ u → g *ℤ c ≡ v → h *ℤ d ≡ neg_ℤ p → g *ℤ h *ℤ (neg_ℤ a *ℤ b +ℤ c *ℤ d) ≡ o *ℤ u +ℤ neg_ℤ p *ℤ v
            group g h a b c d o u v p e f i k = apart g h a b c d ∙ (λ x. neg_ℤ (e x) *ℤ f x +ℤ i x *ℤ k x) ∙ turn o u v p
              where
                apart : (g h a b c d : ℤ) → g *ℤ h *ℤ (neg_ℤ a *ℤ b +ℤ c *ℤ d) ≡ neg_ℤ (g *ℤ a) *ℤ (h *ℤ b) +ℤ g *ℤ c *ℤ (h *ℤ d)
                apart g h a b c d = simp ring (omega (arith, ints))

                turn : (o u v p : ℤ) → neg_ℤ (neg_ℤ o) *ℤ u +ℤ v *ℤ neg_ℤ p ≡ o *ℤ u +ℤ neg_ℤ p *ℤ v
                turn o u v p = simp ring (omega (arith, ints))

    -- and the values at one spot
    pub spot-values : (o : ℤ) (v : ℕ → ℤ) → HasSpot cs cases n o v → AreSmallDirections most v
    spot-values o v p = record {
      factor = pos (gcd_of_all (line_whole p.spot));
      m = λ j. entry (spot_line cs cases [] p.spot) j;
      over = record { divisor = 1; bounded = λ j l. (small j l, one_divides (unsigned_abs (entry (spot_line cs cases [] p.spot) j))) };
      are = λ j l. sym (value-divided o v p j l);
    }
      where
        f : Frame
        f = record { lines = spot_line cs cases [] p.spot ∷ []; units = n + 1 }

        small : (j : ℕ) → j < n → unsigned_abs (entry (spot_line cs cases [] p.spot) j) ≤ most * 1
        small j l =
            let own : unsigned_abs (number_in f 0 j) ≤ most = lines-small most f (calm (p.spot ∷ []) (omega arith) (p.is, tt)) 0 j (omega arith) (omega (arith, l)) in
            let there : number_in f 0 j ≡ entry (spot_line cs cases [] p.spot) j = ap (λ b. cond b (entry (spot_line cs cases [] p.spot) j) (cond (nat_eq j (n + 1 + 0)) (pos 1) (pos 0))) (lt-ltb j (n + 1) (omega (arith, l))) in
            omega (arith, own, ap unsigned_abs there)

        one_divides : (k : ℕ) → 1 ∣ k
        one_divides k = one-dvd k
