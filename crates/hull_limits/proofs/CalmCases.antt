-- The points and rays of a case of a calm question are made, each point is a spot up to a factor,
-- and the rays and the directions between points have small numbers.
use Rattle.std.proofs.Common.{◌≡◌, ◌≢◌, ℕ, zero, suc, ◌+◌, ◌*◌, ◌^◌, ◌<◌, ◌≤◌, Bool, true, false, cond, ⊎_elim, refl, sym, ap, subst, ◌∙◌, arith, List, [], ◌∷◌, ◌++◌, map, length, get_or, ℤ, pos, negsuc, ◌+ℤ◌, ◌*ℤ◌, ◌<ℤ◌}
use Rattle.std.specs.Prelude.{IsOkAnd, Some, Ok, Err, int_lt, neg_ℤ, slice_get, unsigned_abs}
use Rattle.std.specs.List.{AllByRecursion}
use Rattle.std.specs.Map.{keys_of}
use Rattle.std.proofs.lemmas.Int.{ints}
use Rattle.std.proofs.Math.Nat.{mul-le-mul_left}
use Rattle.std.proofs.lemmas.Nat.{mul-le}
use Rattle.items.specs.Gives.{◌>>=◌}
use Rattle.items.proofs.Each.{each-append}
use Rattle.whole_numbers.specs.Dot.{dot}
use Rattle.whole_numbers.proofs.Ring.{ring, *ℤ_assoc}
use Rattle.linear_terms.specs.declared.col.Col.{Col}
use Rattle.linear_terms.specs.declared.row.Kind.{Kind}
use Rattle.linear_terms.specs.declared.row.Kind.TheVariants.{AtMost, Equal}
use Rattle.linear_terms.specs.declared.row.Row.{Row}
use Rattle.linear_terms.specs.Polynomial.{Polynomial}
use Rattle.farkas_check.specs.Calm.{IsSpotOf, SpotPoint, paired_sum, row_frame, spot_line, value_at}
use Rattle.farkas_check.specs.Frames.{IsCalmUpTo, line_of, sum_below}
use Rattle.farkas_check.specs.Relations.{case_monos, entry, monos_before, places, stratum_columns, term_count}
use Rattle.farkas_check.specs.Columns.{monos_of}
use Rattle.farkas_check.specs.Sizes.{HasNumbersUpTo, row_polys}
use Rattle.farkas_check.specs.Stratum.{terms_of}
use Rattle.farkas_check.specs.declared.stratum.Change.{Change}
use Rattle.farkas_check.proofs.Spreads.{AreAmong, RowsAmong}
use Rattle.farkas_check.proofs.Vanishing.{IsCaseAmong, PolysAmong, cases_among}
use Rattle.farkas_check.proofs.Walks.{IsOrdered-columns}
use Rattle.cones.specs.InBits.{IsOrLeaves}
use Rattle.cones.specs.InBits as steps
use Rattle.cones.specs.Tangents.{difference}
use Rattle.cones.specs.Vectors.{combination, lowest, opposite}
use Rattle.cones.specs.declared.point.Point.{Point}
use Rattle.cones.proofs.Bits.{difference-made, dot-made, each-made, opposite-made}
use Rattle.cones.proofs.Dots.{dot-opposite}
use Rattle.cones.proofs.Numbers.{above_not_zero, not_zero-*ℤ, times_zero}
use Rattle.cones.proofs.Widths.{combination-length}
use Rattle.facet_hull.specs.Images.{columns_of, far, image, is_corner}
use Rattle.facet_hull.specs.InBits as in_bits
use Rattle.facet_hull.specs.Spots.{TwoSpotsAreATableau}
use Rattle.simplex.proofs.Certificates.{sum_below-first}
use Rattle.simplex.proofs.Corners.{factored, plus}
use Rattle.simplex.proofs.Sums.{sum_below-same}
use Rattle.simplex.proofs.WiderColumns.{in_order-among}
use Rattle.hull_limits.proofs.CaseSpots.{HasRaySpots, IsAlongSpot, IsCaseSpot, owner-ray, owner-spot}
use Rattle.hull_limits.proofs.Clearings.{none_or_some}
use Rattle.hull_limits.proofs.ConeImages.{HasImages, IsCone, both_signs-make, cone_from-makes, images_in-make}
use Rattle.hull_limits.proofs.FrameSearch.{IsFoundInFrame, IsFrameBasis, IsLineOf, IsOwning, IsReading, basis-owning, found-within, frame-is_kept}
use Rattle.hull_limits.proofs.MadeSteps.{IsOkAnd-bind, IsOkAnd-more, all_of-makes, behind-makes, each-makes}
use Rattle.hull_limits.proofs.Magnitudes.{IsWithin, AreWithin, total, combination_each-makes, opposite-makes, opposite_number-makes, total-within}
use Rattle.hull_limits.proofs.OwnColumns.{IsPart, part-of}
use Rattle.hull_limits.proofs.RowBasis.{constants-read, far-line, line-length, lines_at, map-map, mapped-length, opposite-is_line, row-line, row-reading, row-small, units-basis, units-lines, value_on, vector-value}
use Rattle.hull_limits.proofs.SmallBodies.{image-makes}
use Rattle.hull_limits.proofs.SpotDirections.{AreOver, AreSmallDirections, HasSpot, lines-small, lowest-bounded, spot-values, spots-direction}

-- ---- columns of one case

polys-before : (ps : List Polynomial) (cs : List (List Col)) → PolysAmong ps cs → AreAmong (monos_before [] ps) cs
polys-before [] cs h = tt
polys-before (p ∷ ps) cs h = each-append _ (keys_of p.terms) (monos_before [] ps) h.0 (polys-before ps cs h.1)

rows-before : (rows : List Row) (terms : List Polynomial) (cs : List (List Col)) → RowsAmong rows cs → PolysAmong terms cs → AreAmong (monos_of rows [] ++ monos_before [] terms) cs
rows-before rows terms cs a b = each-append _ (monos_of rows []) (monos_before [] terms) (go rows a) (polys-before terms cs b)
  where
    go : (rows : List Row) → RowsAmong rows cs → AreAmong (monos_of rows []) cs
    go [] h = tt
    go (row ∷ rows) h = each-append _ (keys_of row.poly.terms) (monos_of rows []) h.0 (go rows h.1)

-- the columns of a case are a part of those of the question
own-part : (cases : List Change) (case : Change) → IsCaseAmong (stratum_columns cases []) case → IsPart (columns_of case) (columns_of case) (stratum_columns cases [])
own-part cases case h =
    part-of (columns_of case) (columns_of case) (stratum_columns cases []) (IsOrdered-columns (case_monos (case ∷ []) [])) (IsOrdered-columns (case_monos cases []))
    (in_order-among (case_monos (case ∷ []) []) (stratum_columns cases []) (rows-before case.rows case.terms (stratum_columns cases []) h.rows h.terms)) (λ m k l. k)

own-rows : (case : Change) → AllByRecursion (λ (p : Polynomial). AreAmong (keys_of p.terms) (columns_of case)) (row_polys case.rows [])
own-rows case = go case.rows (cases_among (case ∷ []) []).0.rows
  where
    go : (rows : List Row) → RowsAmong rows (columns_of case) → AllByRecursion (λ (p : Polynomial). AreAmong (keys_of p.terms) (columns_of case)) (row_polys rows [])
    go [] h = tt
    go (row ∷ rows) h = (h.0, go rows h.1)

-- ---- sums by places

paired-below : (xs : List ℤ) (n : ℕ) (y : ℕ → ℤ) → length xs ≡ suc n → paired_sum xs (map y (places n) ++ y n ∷ []) ≡ sum_below (suc n) (λ c. entry xs c *ℤ y c)
paired-below [] n y e = absurd (omega (arith, e))
paired-below (x ∷ []) zero y e = swap (x *ℤ y 0)
  where
    swap : (z : ℤ) → z +ℤ pos 0 ≡ pos 0 +ℤ z
    swap z = omega (arith, ints)
paired-below (x ∷ (z ∷ xs)) zero y e = absurd (omega (arith, e))
paired-below (x ∷ xs) (suc n) y e =
    ap (λ ys. x *ℤ y 0 +ℤ paired_sum xs (ys ++ y (suc n) ∷ [])) (map-map (λ i. suc i) y (places n))
    ∙ ap (λ z. x *ℤ y 0 +ℤ z) (paired-below xs n (λ k. y (suc k)) (omega (arith, e)))
    ∙ sym (sum_below-first (suc n) (λ c. entry (x ∷ xs) c *ℤ y c))

entry-mapped : (f g : Polynomial → ℤ) (a : ℤ) (ts : List Polynomial) (j : ℕ) → ((t : Polynomial) → g t ≡ a *ℤ f t) → entry (map g ts) j ≡ a *ℤ entry (map f ts) j
entry-mapped f g a [] j h = sym (times_zero a)
entry-mapped f g a (t ∷ ts) zero h = h t
entry-mapped f g a (t ∷ ts) (suc j) h = entry-mapped f g a ts j h

entry-summed : (f g s : Polynomial → ℤ) (a : ℤ) (ts : List Polynomial) (j : ℕ) → ((t : Polynomial) → s t ≡ f t +ℤ a *ℤ g t) → entry (map s ts) j ≡ entry (map f ts) j +ℤ a *ℤ entry (map g ts) j
entry-summed f g s a [] j h = sym (none (a *ℤ pos 0) (times_zero a))
  where
    none : (z : ℤ) → z ≡ pos 0 → pos 0 +ℤ z ≡ pos 0
    none z e = omega (arith, ints)
entry-summed f g s a (t ∷ ts) zero h = h t
entry-summed f g s a (t ∷ ts) (suc j) h = entry-summed f g s a ts j h

entry-combined : (a b : ℤ) (v u : List ℤ) (j : ℕ) → entry (combination a v b u) j ≡ a *ℤ entry v j +ℤ b *ℤ entry u j
entry-combined a b [] u j = scaled u j ∙ sym (first (a *ℤ pos 0) (b *ℤ entry u j) (times_zero a))
  where
    scaled : (u : List ℤ) (j : ℕ) → entry (map (λ y. b *ℤ y) u) j ≡ b *ℤ entry u j
    scaled [] j = sym (times_zero b)
    scaled (y ∷ u) zero = refl
    scaled (y ∷ u) (suc j) = scaled u j

    first : (x y : ℤ) → x ≡ pos 0 → x +ℤ y ≡ y
    first x y e = omega (arith, ints)
entry-combined a b (x ∷ v) [] j = scaled (x ∷ v) j ∙ sym (last (a *ℤ entry (x ∷ v) j) (b *ℤ pos 0) (times_zero b))
  where
    scaled : (u : List ℤ) (j : ℕ) → entry (map (λ y. a *ℤ y) u) j ≡ a *ℤ entry u j
    scaled [] j = sym (times_zero a)
    scaled (y ∷ u) zero = refl
    scaled (y ∷ u) (suc j) = scaled u j

    last : (x y : ℤ) → y ≡ pos 0 → x +ℤ y ≡ x
    last x y e = omega (arith, ints)
entry-combined a b (x ∷ v) (y ∷ u) zero = refl
entry-combined a b (x ∷ v) (y ∷ u) (suc j) = entry-combined a b v u j

terms-there : (cases : List Change) (k : ℕ) (case : Change) → slice_get cases k ≡ Some case → terms_of cases k ≡ case.terms
terms-there [] k case e = cc
terms-there (c ∷ cases) zero case e = let same : c ≡ case = cc in ap (λ (x : Change). x.terms) same
terms-there (c ∷ cases) (suc k) case e = terms-there cases k case e

size-positive : (z : ℤ) → z ≢ pos 0 → 0 < unsigned_abs z
size-positive (pos zero) h = absurd (h refl)
size-positive (pos (suc n)) h = omega arith
size-positive (negsuc n) h = omega arith

made-both : {X : Type 0} (x : X) (P : X → Type 0) (r : steps.Made X) → IsOrLeaves x r → IsOkAnd r P → IsOkAnd r (λ made. (made ≡ x) × P made)
made-both x P (Ok made) h k = (h, k)
made-both x P (Err step) h k = absurd k

-- ---- a case of the question

-- the greatest number of a calm frame
abbrev pub most_calm : ℕ
most_calm = 1048576

-- a value of a term on a vector of at most seven numbers
abbrev pub most_value : ℕ
most_value = most_calm * (7 * most_calm)

-- a case of a calm question, with few columns of its own
pub record IsCalmCaseOf (cases : List Change) (case : Change) : Type 0 where
  pub place : ℕ
  pub there : slice_get cases place ≡ Some case
  pub calm : IsCalmUpTo most_calm (row_frame (stratum_columns cases []) case.rows)
  pub terms : AllByRecursion (HasNumbersUpTo most_calm) case.terms
  pub few : length (columns_of case) ≤ 6
  pub among : IsCaseAmong (stratum_columns cases []) case
  pub many : length case.terms ≡ term_count cases

-- the frames of at most two spots are calm
abbrev pub AreCalmSpots : List Change → Type 0
AreCalmSpots cases =
    (spots : List SpotPoint) → length spots ≤ term_count cases + 1 → AllByRecursion (IsSpotOf (stratum_columns cases []) cases) spots
    → IsCalmUpTo most_calm (record { lines = map (spot_line (stratum_columns cases []) cases []) spots; units = term_count cases + 1 })

-- up to a factor the point of a spot
pub record IsSpotPoint (cases : List Change) (p : Point) : Type 0 where
  pub by : ℤ
  pub some : by ≢ pos 0
  pub spot : HasSpot (stratum_columns cases []) cases (term_count cases) (by *ℤ p.over) (λ j. by *ℤ entry p.numbers j)
  pub many : length p.numbers ≡ term_count cases
  pub small : AreWithin most_value p.numbers
  pub over_small : IsWithin most_calm p.over

HasSpot-same : (cs : List (List Col)) (cases : List Change) (n : ℕ) (o p : ℤ) (v u : ℕ → ℤ) → o ≡ p → ((j : ℕ) → v j ≡ u j) → HasSpot cs cases n o v → HasSpot cs cases n p u
HasSpot-same cs cases n o p v u e f h = record { spot = h.spot; is = h.is; positive = subst (λ z. pos 0 <ℤ z) e h.positive; over_is = h.over_is ∙ e; many = h.many; values_are = λ j l. h.values_are j l ∙ f j }

module _ (cases : List Change) (case : Change) (h : IsCalmCaseOf cases case) where
  -- the lines that read a vector of the case at the columns of its frame
  abbrev lines : ℕ → List ℤ
  lines = lines_at most_calm (columns_of case) (columns_of case) (stratum_columns cases []) (own-part cases case h.among) (row_polys case.rows [])

  -- the value of a polynomial on numbers at all columns
  abbrev value : (ℕ → ℤ) → Polynomial → ℤ
  value = value_on most_calm (columns_of case) (columns_of case) (stratum_columns cases []) (own-part cases case h.among) (row_polys case.rows [])

  -- ---- spots of it

  case-spot : (x : ℕ → ℤ) → IsCaseSpot (stratum_columns cases []) case.rows x → HasSpot (stratum_columns cases []) cases (term_count cases) (x (length (stratum_columns cases []))) (λ j. entry (map (value x) case.terms) j)
  case-spot x k = record {
    spot = spot;
    is = record { case = case; there = h.there; is = k.spot };
    positive = k.positive;
    over_is = refl;
    many = ap length terms ∙ h.many;
    values_are = λ j l. ap (λ ts. entry (map (value_at (stratum_columns cases []) spot) ts) j) terms ∙ entry-mapped (value x) (value_at (stratum_columns cases []) spot) (pos 1) case.terms j (λ t. read t ∙ one (value x t)) ∙ sym (one (entry (map (value x) case.terms) j));
  }
    where
      spot : SpotPoint
      spot = record { case = h.place; over = x (length (stratum_columns cases [])); numbers = map x (places (length (stratum_columns cases []))) }

      terms : terms_of cases h.place ≡ case.terms
      terms = terms-there cases h.place case h.there

      one : (z : ℤ) → z ≡ pos 1 *ℤ z
      one z = omega (arith, ints)

      read : (t : Polynomial) → value_at (stratum_columns cases []) spot t ≡ value x t
      read t =
          paired-below (line_of (stratum_columns cases []) t) (length (stratum_columns cases [])) x (line-length (stratum_columns cases []) t ∙ next (length (stratum_columns cases [])))
          ∙ ap (λ n. sum_below n (λ c. entry (line_of (stratum_columns cases []) t) c *ℤ x c)) (sym (next (length (stratum_columns cases []))))
        where
          next : (n : ℕ) → n + 1 ≡ suc n
          next n = omega arith

  value-scaled : (a : ℤ) (x : ℕ → ℤ) (t : Polynomial) → value (λ c. a *ℤ x c) t ≡ a *ℤ value x t
  value-scaled a x t =
      sum_below-same (length (stratum_columns cases []) + 1) (λ c. entry (line_of (stratum_columns cases []) t) c *ℤ (a *ℤ x c)) (λ c. a *ℤ (entry (line_of (stratum_columns cases []) t) c *ℤ x c)) (λ c l. swap (entry (line_of (stratum_columns cases []) t) c) a (x c))
      ∙ sym (factored (length (stratum_columns cases []) + 1) a (λ c. entry (line_of (stratum_columns cases []) t) c *ℤ x c))
    where
      swap : (n a x : ℤ) → n *ℤ (a *ℤ x) ≡ a *ℤ (n *ℤ x)
      swap n a x = simp ring (omega (arith, ints))

  value-summed : (a : ℤ) (x y : ℕ → ℤ) (t : Polynomial) → value (λ c. x c +ℤ a *ℤ y c) t ≡ value x t +ℤ a *ℤ value y t
  value-summed a x y t =
      sum_below-same (length (stratum_columns cases []) + 1) (λ c. entry (line_of (stratum_columns cases []) t) c *ℤ (x c +ℤ a *ℤ y c)) (λ c. entry (line_of (stratum_columns cases []) t) c *ℤ x c +ℤ entry (line_of (stratum_columns cases []) t) c *ℤ (a *ℤ y c)) (λ c l. apart (entry (line_of (stratum_columns cases []) t) c) (x c) (a *ℤ y c))
      ∙ plus (length (stratum_columns cases []) + 1) (λ c. entry (line_of (stratum_columns cases []) t) c *ℤ x c) (λ c. entry (line_of (stratum_columns cases []) t) c *ℤ (a *ℤ y c))
      ∙ ap (λ z. value x t +ℤ z) (value-scaled a y t)
    where
      apart : (n x y : ℤ) → n *ℤ (x +ℤ y) ≡ n *ℤ x +ℤ n *ℤ y
      apart n x y = simp ring (omega (arith, ints))

  -- the values of the terms on a vector
  abbrev image_of : List ℤ → List ℤ
  image_of v = image (columns_of case) case.terms v

  read-value : (v : List ℤ) (t : Polynomial) → value (λ c. dot (lines c) v) t ≡ dot (line_of (columns_of case) t) v
  read-value v t = vector-value most_calm (columns_of case) (columns_of case) (stratum_columns cases []) (own-part cases case h.among) (row_polys case.rows []) t v

  read-constants : (v : List ℤ) → dot (lines (length (stratum_columns cases []))) v ≡ entry v (length (columns_of case))
  read-constants v = constants-read most_calm (columns_of case) (columns_of case) (stratum_columns cases []) (own-part cases case h.among) (row_polys case.rows []) v

  -- ---- images of vectors

  -- a multiple of what the terms have on the vector is small over a common divisor
  record HasSmallImage (v : List ℤ) : Type 0 where
    a : ℤ
    some : a ≢ pos 0
    small : AreSmallDirections (stratum_columns cases []) cases (term_count cases) most_calm (λ j. a *ℤ entry (image_of v) j)

  smaller-same : (z y : ℕ → ℤ) → ((j : ℕ) → z j ≡ y j) → AreSmallDirections (stratum_columns cases []) cases (term_count cases) most_calm z → AreSmallDirections (stratum_columns cases []) cases (term_count cases) most_calm y
  smaller-same z y e k = record { factor = k.factor; m = k.m; over = k.over; are = λ j l. sym (e j) ∙ k.are j l }

  image-length : (v : List ℤ) → length (image_of v) ≡ term_count cases
  image-length v = mapped-length (λ t. dot (line_of (columns_of case) t) v) case.terms ∙ h.many

  image-lowest : (v : List ℤ) → HasSmallImage v → AreWithin most_calm (lowest (image_of v))
  image-lowest v k =
      lowest-bounded most_calm k.a k.small.factor k.small.m (image_of v) (size-positive k.a k.some) (subst (λ n. AreOver most_calm n k.small.m) (sym (image-length v)) k.small.over)
      (λ j l. k.small.are j (subst (λ n. j < n) (image-length v) l))

  -- vectors of the case are solutions of its frame
  abbrev reading : IsReading (row_frame (stratum_columns cases []) case.rows) (length (columns_of case) + 1) (lines_at most_calm (columns_of case) (columns_of case) (stratum_columns cases []) (own-part cases case h.among) (row_polys case.rows []))
  reading = row-reading most_calm (columns_of case) (columns_of case) (stratum_columns cases []) (own-part cases case h.among) (row_polys case.rows [])

  dots : most_calm * ((length (columns_of case) + 1) * most_calm) < 2 ^ 127
  dots =
      let up : most_calm * ((length (columns_of case) + 1) * most_calm) ≤ most_calm * (7 * most_calm) = mul-le-mul_left most_calm (mul-le (length (columns_of case) + 1) most_calm 7 most_calm (omega (arith, h.few)) (omega arith)) in
      omega (arith, up)

  moves : most_calm * most_calm + most_calm * most_calm < 2 ^ 127
  moves = omega arith

  -- lines that read a column of the frame
  abbrev Line : List ℤ → Type 0
  Line = IsLineOf (row_frame (stratum_columns cases []) case.rows) (length (columns_of case) + 1) most_calm (length (stratum_columns cases [])) lines reading

  -- bases of vectors that own columns, as the search keeps them
  abbrev Basis : List (List ℤ) → Type 0
  Basis = IsFrameBasis (row_frame (stratum_columns cases []) case.rows) (length (columns_of case) + 1) most_calm (length (stratum_columns cases [])) lines reading

  -- vectors of such a basis
  abbrev Owning : List ℤ → Type 0
  Owning = IsOwning (row_frame (stratum_columns cases []) case.rows) (length (columns_of case) + 1) most_calm (length (stratum_columns cases [])) lines reading h.calm dots moves

  -- the last vector of one, or its opposite
  abbrev Found : List ℤ → Type 0
  Found = IsFoundInFrame (row_frame (stratum_columns cases []) case.rows) (length (columns_of case) + 1) most_calm (length (stratum_columns cases [])) lines reading h.calm dots moves

  -- a vector that owns a column, with a number at the constants, is along a spot
  along-spot : (v : List ℤ) → Owning v → dot (lines (length (stratum_columns cases []))) v ≢ pos 0 → IsAlongSpot (stratum_columns cases []) case.rows (λ c. dot (lines c) v)
  along-spot v o n = owner-spot (stratum_columns cases []) case.rows (record { column = o.column; numbers = λ c. dot (lines c) v }) o.others o.chosen o.basis n

  along-values : (v : List ℤ) (by : ℤ) (j : ℕ) → entry (map (value (λ c. by *ℤ dot (lines c) v)) case.terms) j ≡ by *ℤ entry (image_of v) j
  along-values v by j = entry-mapped (λ t. dot (line_of (columns_of case) t) v) (value (λ c. by *ℤ dot (lines c) v)) by case.terms j (λ t. value-scaled by (λ c. dot (lines c) v) t ∙ ap (λ z. by *ℤ z) (read-value v t))

  module _ (law : TwoSpotsAreATableau) (spots_calm : AreCalmSpots cases) where
    owner-image : (v : List ℤ) → Owning v → HasSmallImage v
    owner-image v o = ⊎_elim (λ e. as_ray e) (λ n. as_corner (along-spot v o n)) (none_or_some (dot (lines (length (stratum_columns cases []))) v))
      where
        as_corner : IsAlongSpot (stratum_columns cases []) case.rows (λ c. dot (lines c) v) → HasSmallImage v
        as_corner s = record {
          a = s.by;
          some = s.some;
          small = smaller-same (λ j. entry (map (value (λ c. s.by *ℤ dot (lines c) v)) case.terms) j) (λ j. s.by *ℤ entry (image_of v) j) (along-values v s.by)
              (spot-values (stratum_columns cases []) cases (term_count cases) law most_calm refl spots_calm (s.by *ℤ dot (lines (length (stratum_columns cases []))) v) (λ j. entry (map (value (λ c. s.by *ℤ dot (lines c) v)) case.terms) j) (case-spot (λ c. s.by *ℤ dot (lines c) v) s.spot));
        }

        as_ray : dot (lines (length (stratum_columns cases []))) v ≡ pos 0 → HasSmallImage v
        as_ray e = from (owner-ray (stratum_columns cases []) case.rows (record { column = o.column; numbers = λ c. dot (lines c) v }) o.others o.chosen o.basis e (⊎_elim (λ n. absurd (n e)) (λ s. s) o.seen))
          where
            from : HasRaySpots (stratum_columns cases []) case.rows (λ c. dot (lines c) v) → HasSmallImage v
            from r = record {
              a = r.x constants *ℤ r.by;
              some = not_zero-*ℤ (r.x constants) r.by (above_not_zero (r.x constants) r.corner.positive) r.some;
              small = smaller-same (λ j. r.x constants *ℤ entry (map (value both) case.terms) j +ℤ neg_ℤ (both constants) *ℤ entry (map (value r.x) case.terms) j) (λ j. r.x constants *ℤ r.by *ℤ entry (image_of v) j) same
                  (spots-direction (stratum_columns cases []) cases (term_count cases) law most_calm refl spots_calm (r.x constants) (both constants) (λ j. entry (map (value r.x) case.terms) j) (λ j. entry (map (value both) case.terms) j) (case-spot r.x r.corner) (case-spot both r.both));
            }
              where
                constants : ℕ
                constants = length (stratum_columns cases [])

                both : ℕ → ℤ
                both c = r.x c +ℤ r.by *ℤ dot (lines c) v

                same : (j : ℕ) → r.x constants *ℤ entry (map (value both) case.terms) j +ℤ neg_ℤ (both constants) *ℤ entry (map (value r.x) case.terms) j ≡ r.x constants *ℤ r.by *ℤ entry (image_of v) j
                same j =
                    (λ i. r.x constants *ℤ summed i +ℤ neg_ℤ (over i) *ℤ entry (map (value r.x) case.terms) j) ∙ apart (r.x constants) (entry (map (value r.x) case.terms) j) r.by (entry (image_of v) j)
                  where
                    summed : entry (map (value both) case.terms) j ≡ entry (map (value r.x) case.terms) j +ℤ r.by *ℤ entry (image_of v) j
                    summed = entry-summed (value r.x) (λ t. dot (line_of (columns_of case) t) v) (value both) r.by case.terms j (λ t. value-summed r.by r.x (λ c. dot (lines c) v) t ∙ ap (λ z. value r.x t +ℤ r.by *ℤ z) (read-value v t))

                    over : both constants ≡ r.x constants
                    over = right (r.x constants) (r.by *ℤ dot (lines constants) v) (ap (λ z. r.by *ℤ z) r.zero_there ∙ times_zero r.by)
                      where
                        right : (x y : ℤ) → y ≡ pos 0 → x +ℤ y ≡ x
                        right x y e = omega (arith, ints)

                    apart : (x v b i : ℤ) → x *ℤ (v +ℤ b *ℤ i) +ℤ neg_ℤ x *ℤ v ≡ x *ℤ b *ℤ i
                    apart x v b i = simp ring (omega (arith, ints))

    -- ---- what is found

    -- up to a sign a vector that owns a column
    record IsSigned (w : List ℤ) : Type 0 where
      vector : List ℤ
      owning : Owning vector
      sign : ℤ
      some : sign ≢ pos 0
      turned : (line : List ℤ) → dot line vector ≡ sign *ℤ dot line w

    found-signed : (w : List ℤ) → Found w → IsSigned w
    found-signed w k = ⊎_elim (λ e. record { vector = k.vector; owning = owning; sign = pos 1; some = above_not_zero (pos 1) (omega (arith, ints)); turned = λ line. one (dot line k.vector) ∙ ap (λ u. pos 1 *ℤ dot line u) (sym e) }) (λ e. record { vector = k.vector; owning = owning; sign = negsuc 0; some = minus_one; turned = λ line. twice (dot line k.vector) ∙ ap (λ z. negsuc 0 *ℤ z) (sym (dot-opposite line k.vector)) ∙ ap (λ u. negsuc 0 *ℤ dot line u) (sym e) }) k.is
      where
        owning : Owning k.vector
        owning = (basis-owning (row_frame (stratum_columns cases []) case.rows) (length (columns_of case) + 1) most_calm (length (stratum_columns cases [])) lines reading h.calm dots moves (k.vector ∷ []) k.basis).0

        one : (z : ℤ) → z ≡ pos 1 *ℤ z
        one z = omega (arith, ints)

        twice : (z : ℤ) → z ≡ negsuc 0 *ℤ neg_ℤ z
        twice z = omega (arith, ints)

        minus_one : negsuc 0 ≢ pos 0
        minus_one e = absurd (omega (arith, ints, e))

    signed-image : (w : List ℤ) (s : IsSigned w) (j : ℕ) → entry (image_of s.vector) j ≡ s.sign *ℤ entry (image_of w) j
    signed-image w s j = entry-mapped (λ t. dot (line_of (columns_of case) t) w) (λ t. dot (line_of (columns_of case) t) s.vector) s.sign case.terms j (λ t. s.turned (line_of (columns_of case) t))

    found-image : (w : List ℤ) → IsSigned w → HasSmallImage w
    found-image w s = from (owner-image s.vector s.owning)
      where
        from : HasSmallImage s.vector → HasSmallImage w
        from k = record {
          a = k.a *ℤ s.sign;
          some = not_zero-*ℤ k.a s.sign k.some s.some;
          small = smaller-same (λ j. k.a *ℤ entry (image_of s.vector) j) (λ j. k.a *ℤ s.sign *ℤ entry (image_of w) j) (λ j. ap (λ z. k.a *ℤ z) (signed-image w s j) ∙ sym (*ℤ_assoc k.a s.sign (entry (image_of w) j))) k.small;
        }

    -- the point of a vector with a positive denominator
    found-point : (w : List ℤ) → IsSigned w → AreWithin most_calm w → AreWithin most_value (image_of w) → int_lt (pos 0) (entry w (length (columns_of case))) ≡ true → IsSpotPoint cases (record { numbers = image_of w; over = entry w (length (columns_of case)) })
    found-point w s small wide positive = from (along-spot s.vector s.owning seen)
      where
        denominator : dot (lines (length (stratum_columns cases []))) s.vector ≡ s.sign *ℤ entry w (length (columns_of case))
        denominator = s.turned (lines (length (stratum_columns cases []))) ∙ ap (λ z. s.sign *ℤ z) (read-constants w)

        seen : dot (lines (length (stratum_columns cases []))) s.vector ≢ pos 0
        seen e = not_zero-*ℤ s.sign (entry w (length (columns_of case))) s.some (some (entry w (length (columns_of case))) positive) (sym denominator ∙ e)
          where
            some : (z : ℤ) → int_lt (pos 0) z ≡ true → z ≢ pos 0
            some z e f = absurd (omega (arith, ints, e, f))

        from : IsAlongSpot (stratum_columns cases []) case.rows (λ c. dot (lines c) s.vector) → IsSpotPoint cases (record { numbers = image_of w; over = entry w (length (columns_of case)) })
        from k = record {
          by = k.by *ℤ s.sign;
          some = not_zero-*ℤ k.by s.sign k.some s.some;
          spot = HasSpot-same (stratum_columns cases []) cases (term_count cases) (k.by *ℤ dot (lines (length (stratum_columns cases []))) s.vector) (k.by *ℤ s.sign *ℤ entry w (length (columns_of case))) (λ j. entry (map (value (λ c. k.by *ℤ dot (lines c) s.vector)) case.terms) j) (λ j. k.by *ℤ s.sign *ℤ entry (image_of w) j)
              (ap (λ z. k.by *ℤ z) denominator ∙ sym (*ℤ_assoc k.by s.sign (entry w (length (columns_of case)))))
              (λ j. along-values s.vector k.by j ∙ ap (λ z. k.by *ℤ z) (signed-image w s j) ∙ sym (*ℤ_assoc k.by s.sign (entry (image_of w) j))) (case-spot (λ c. k.by *ℤ dot (lines c) s.vector) k.spot);
          many = image-length w;
          small = wide;
          over_small = entry-small w (length (columns_of case)) small;
        }
          where
            entry-small : (v : List ℤ) (j : ℕ) → AreWithin most_calm v → IsWithin most_calm (entry v j)
            entry-small [] j k = omega arith
            entry-small (z ∷ v) zero k = k.0
            entry-small (z ∷ v) (suc j) k = entry-small v j k.1

    -- ---- in 128 bits

    made-image : (v : List ℤ) → length v ≡ length (columns_of case) + 1 → AreWithin most_calm v → IsOkAnd (in_bits.image (columns_of case) case.terms v) (λ made. (made ≡ image_of v) × AreWithin most_value made)
    made-image v e k =
        made-both (image_of v) (AreWithin most_value) (in_bits.image (columns_of case) case.terms v) (each-made (λ t. steps.dot (line_of (columns_of case) t) v) (λ t. dot (line_of (columns_of case) t) v) (λ t. dot-made (line_of (columns_of case) t) v) case.terms)
        (image-makes most_calm (7 * most_calm) (columns_of case) case.terms h.terms (omega arith) v whole)
      where
        whole : total v ≤ 7 * most_calm
        whole =
            let up : length v * most_calm ≤ 7 * most_calm = mul-le (length v) most_calm 7 most_calm (omega (arith, e, h.few)) (omega arith) in
            omega (arith, up, total-within most_calm v k)

    found-fits : (w : List ℤ) → Found w → (length w ≡ length (columns_of case) + 1) × AreWithin most_calm w
    found-fits w k = found-within (row_frame (stratum_columns cases []) case.rows) (length (columns_of case) + 1) most_calm (length (stratum_columns cases [])) lines reading h.calm dots moves w k

    point_of-calm : (w : List ℤ) → Found w → IsOkAnd (in_bits.point_of (columns_of case) case.terms w) (AllByRecursion (IsSpotPoint cases))
    point_of-calm w k = go (is_corner (columns_of case) w) refl
      where
        point : List ℤ → Point
        point made = record { numbers = made; over = entry w (length (columns_of case)) }

        go : (b : Bool) → is_corner (columns_of case) w ≡ b → IsOkAnd (cond b (in_bits.image (columns_of case) case.terms w >>= λ made. Ok (point made ∷ [])) (Ok [])) (AllByRecursion (IsSpotPoint cases))
        go true e = IsOkAnd-bind (λ made. (made ≡ image_of w) × AreWithin most_value made) (AllByRecursion (IsSpotPoint cases)) (in_bits.image (columns_of case) case.terms w) (λ made. Ok (point made ∷ [])) (made-image w (found-fits w k).0 (found-fits w k).1)
            (λ made both. (subst (λ m. IsSpotPoint cases (point m)) (sym both.0) (found-point w (found-signed w k) (found-fits w k).1 (subst (λ m. AreWithin most_value m) both.0 both.1) e), tt))
        go false e = tt

    ray_of-calm : (w : List ℤ) → Found w → IsOkAnd (in_bits.ray_of (columns_of case) case.terms w) (AllByRecursion (AreWithin most_calm))
    ray_of-calm w k = go (is_corner (columns_of case) w)
      where
        go : (b : Bool) → IsOkAnd (cond b (Ok []) (in_bits.image (columns_of case) case.terms w >>= λ made. Ok (lowest made ∷ []))) (AllByRecursion (AreWithin most_calm))
        go true = tt
        go false = IsOkAnd-bind (λ made. (made ≡ image_of w) × AreWithin most_value made) (AllByRecursion (AreWithin most_calm)) (in_bits.image (columns_of case) case.terms w) (λ made. Ok (lowest made ∷ [])) (made-image w (found-fits w k).0 (found-fits w k).1)
            (λ made both. (subst (λ m. AreWithin most_calm (lowest m)) (sym both.0) (image-lowest w (found-image w (found-signed w k))), tt))

    ways-calm : (v : List ℤ) → Owning v → IsOkAnd (in_bits.line_ways (columns_of case) case.terms v) (AllByRecursion (AreWithin most_calm))
    ways-calm v o =
        IsOkAnd-bind (λ made. (made ≡ image_of v) × AreWithin most_value made) (AllByRecursion (AreWithin most_calm)) (in_bits.image (columns_of case) case.terms v) (λ made. in_bits.both_signs (lowest made)) (made-image v o.wide o.within)
        (λ made both. let small : AreWithin most_calm (lowest made) = subst (λ m. AreWithin most_calm (lowest m)) (sym both.0) (image-lowest v (owner-image v o)) in
        both_signs-make (AreWithin most_calm) (lowest made) small (opposite-makes (lowest made) most_calm small (omega arith)))

    -- ---- the cone

    each-at : (P : List ℤ → Type 0) (xs : List (List ℤ)) → ((k : ℕ) → k < length xs → P (get_or xs k [])) → AllByRecursion P xs
    each-at P [] f = tt
    each-at P (x ∷ xs) f = (f 0 (omega arith), each-at P xs (λ k l. f (suc k) (omega (arith, l))))

    rows-lines : AllByRecursion (λ (row : Row). Line (line_of (columns_of case) row.poly)) case.rows
    rows-lines = from case.rows (each-at Line (map (line_of (columns_of case)) (row_polys case.rows [])) (λ k l. line k (subst (λ n. k < n) (mapped-length (line_of (columns_of case)) (row_polys case.rows [])) l)))
      where
        line : (k : ℕ) → k < length (row_polys case.rows []) → Line (get_or (map (line_of (columns_of case)) (row_polys case.rows [])) k [])
        line k l =
            row-line most_calm (columns_of case) (columns_of case) (stratum_columns cases []) (own-part cases case h.among) (row_polys case.rows []) k l
            (row-small most_calm (columns_of case) (columns_of case) (stratum_columns cases []) (own-part cases case h.among) (row_polys case.rows []) k l (λ c m. lines-small most_calm (row_frame (stratum_columns cases []) case.rows) h.calm k c (omega (arith, l, mapped-length (line_of (stratum_columns cases [])) (row_polys case.rows []))) m))

        from : (rows : List Row) → AllByRecursion Line (map (line_of (columns_of case)) (row_polys rows [])) → AllByRecursion (λ (row : Row). Line (line_of (columns_of case) row.poly)) rows
        from [] k = tt
        from (row ∷ rows) k = (k.0, from rows k.1)

    lines-calm : IsOkAnd (in_bits.cone_lines (columns_of case) case.rows) (AllByRecursion Line)
    lines-calm =
        behind-makes Line (far (length (columns_of case)) ∷ []) (steps.all_of (in_bits.row_lines (columns_of case)) case.rows) (far-line most_calm (columns_of case) (columns_of case) (stratum_columns cases []) (own-part cases case h.among) (row_polys case.rows []) (omega arith), tt)
        (all_of-makes (λ (row : Row). Line (line_of (columns_of case) row.poly)) Line (in_bits.row_lines (columns_of case)) (λ row k. by row.kind (line_of (columns_of case) row.poly) k) case.rows rows-lines)
      where
        by : (kind : Kind) (line : List ℤ) → Line line → IsOkAnd (in_bits.lines_by kind line) (AllByRecursion Line)
        by AtMost line k = (k, tt)
        by Equal line k = both_signs-make Line line k (IsOkAnd-more (λ made. (made ≡ opposite line) × AreWithin most_calm made) Line (steps.opposite line) (λ made both. subst (λ m. Line m) (sym both.0) (opposite-is_line most_calm (columns_of case) (columns_of case) (stratum_columns cases []) (own-part cases case h.among) (row_polys case.rows []) line k))
            (made-both (opposite line) (AreWithin most_calm) (steps.opposite line) (opposite-made line) (opposite-makes line most_calm k.small (omega arith))))

    cone-calm : IsOkAnd (in_bits.case_cone (columns_of case) case.rows) (IsCone Owning Found)
    cone-calm =
        IsOkAnd-bind (AllByRecursion Line) (IsCone Owning Found) (in_bits.cone_lines (columns_of case) case.rows) (λ lines. in_bits.cone_from lines (length (columns_of case) + 1)) lines-calm (λ found k.
        cone_from-makes Line Basis Owning Found (frame-is_kept (row_frame (stratum_columns cases []) case.rows) (length (columns_of case) + 1) most_calm (length (stratum_columns cases [])) lines reading h.calm dots moves)
        (basis-owning (row_frame (stratum_columns cases []) case.rows) (length (columns_of case) + 1) most_calm (length (stratum_columns cases [])) lines reading h.calm dots moves) found (length (columns_of case) + 1) k
        (units-lines most_calm (columns_of case) (columns_of case) (stratum_columns cases []) (own-part cases case h.among) (row_polys case.rows []) (omega arith))
        (units-basis most_calm (columns_of case) (columns_of case) (stratum_columns cases []) (own-part cases case h.among) (row_polys case.rows []) (own-rows case)))

    -- the points and rays of the case
    pub images-calm : HasImages (IsSpotPoint cases) (AreWithin most_calm) case
    images-calm = images_in-make (IsSpotPoint cases) (AreWithin most_calm) Owning Found case (record { points = point_of-calm; rays = ray_of-calm; ways = ways-calm }) cone-calm

-- ---- directions

module _ (cases : List Change) (law : TwoSpotsAreATableau) (spots_calm : AreCalmSpots cases) where
  difference-lowest : (p q : Point) → IsSpotPoint cases p → IsSpotPoint cases q → AreWithin most_calm (lowest (difference p q))
  difference-lowest p q h k = from (spots-direction (stratum_columns cases []) cases (term_count cases) law most_calm refl spots_calm (h.by *ℤ p.over) (k.by *ℤ q.over) (λ j. h.by *ℤ entry p.numbers j) (λ j. k.by *ℤ entry q.numbers j) h.spot k.spot)
    where
      wide : length (difference p q) ≡ term_count cases
      wide = combination-length p.over (neg_ℤ q.over) q.numbers p.numbers (h.many ∙ sym k.many) ∙ k.many

      from : AreSmallDirections (stratum_columns cases []) cases (term_count cases) most_calm (λ j. h.by *ℤ p.over *ℤ (k.by *ℤ entry q.numbers j) +ℤ neg_ℤ (k.by *ℤ q.over) *ℤ (h.by *ℤ entry p.numbers j)) → AreWithin most_calm (lowest (difference p q))
      from small =
          lowest-bounded most_calm (h.by *ℤ k.by) small.factor small.m (difference p q) (size-positive (h.by *ℤ k.by) (not_zero-*ℤ h.by k.by h.some k.some)) (subst (λ n. AreOver most_calm n small.m) (sym wide) small.over)
          (λ j l. ap (λ z. h.by *ℤ k.by *ℤ z) (entry-combined p.over (neg_ℤ q.over) q.numbers p.numbers j) ∙ apart h.by k.by p.over q.over (entry q.numbers j) (entry p.numbers j) ∙ small.are j (subst (λ n. j < n) wide l))
        where
          apart : (a b x y u v : ℤ) → a *ℤ b *ℤ (x *ℤ u +ℤ neg_ℤ y *ℤ v) ≡ a *ℤ x *ℤ (b *ℤ u) +ℤ neg_ℤ (b *ℤ y) *ℤ (a *ℤ v)
          apart a b x y u v = simp ring (omega (arith, ints))

  direction-calm : (p q : Point) → IsSpotPoint cases p → IsSpotPoint cases q → IsOkAnd (steps.direction p q) (AreWithin most_calm)
  direction-calm p q h k =
      IsOkAnd-bind (λ made. (made ≡ difference p q) × AreWithin (most_calm * most_value + most_calm * most_value) made) (AreWithin most_calm) (steps.difference p q) (λ made. Ok (lowest made))
      (made-both (difference p q) (AreWithin (most_calm * most_value + most_calm * most_value)) (steps.difference p q) (difference-made p q)
      (IsOkAnd-bind (IsWithin most_calm) (AreWithin (most_calm * most_value + most_calm * most_value)) (steps.opposite_number q.over) (λ by. steps.combination p.over q.numbers by p.numbers) (opposite_number-makes q.over most_calm k.over_small (omega arith))
      (λ by e. combination_each-makes p.over by most_calm most_calm most_value most_value q.numbers p.numbers h.over_small e k.small h.small (omega arith))))
      (λ made both. subst (λ m. AreWithin most_calm (lowest m)) (sym both.0) (difference-lowest p q h k))

  pub directions-calm : (points : List Point) (rays : List (List ℤ)) (p : Point) → AllByRecursion (IsSpotPoint cases) points → AllByRecursion (AreWithin most_calm) rays → IsSpotPoint cases p → IsOkAnd (steps.directions points rays p) (AllByRecursion (AreWithin most_calm))
  directions-calm points rays p h r k =
      IsOkAnd-bind (AllByRecursion (AreWithin most_calm)) (AllByRecursion (AreWithin most_calm)) (steps.each (steps.direction p) points) (λ made. Ok (made ++ rays))
      (each-makes (IsSpotPoint cases) (AreWithin most_calm) (steps.direction p) (λ q l. direction-calm p q k l) points h) (λ made g. each-append (AreWithin most_calm) made rays g r)
