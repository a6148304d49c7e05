-- A point of a calm case: the numbers of a corner, and those of a corner and a ray, are small over
-- a common denominator.
use Rattle.std.proofs.Common.{◌≡◌, ◌≢◌, ℕ, ◌+◌, ◌*◌, ◌<◌, ◌≤◌, Bool, true, false, List, ◌∷◌, map, length, get_or, Ok, sym, ap, subst, ◌∙◌, arith, ⊎_elim, ℤ, pos, negsuc, ◌+ℤ◌, ◌-ℤ◌, ◌*ℤ◌, ◌<ℤ◌}
use Rattle.std.specs.Prelude.{unsigned_abs, int_div}
use Rattle.std.specs.Int.{◌∣◌}
use Rattle.std.specs.List.{AllByRecursion}
use Rattle.std.proofs.lemmas.Int.{ints, unsigned_abs-mul}
use Rattle.std.proofs.lemmas.Bool.{cases_eq}
use Rattle.std.proofs.lemmas.Nat.Gcd.{dvd-zero}
use Rattle.std.proofs.Math.Nat.{mul-le-mul, one-mul}
use Rattle.std.proofs.Math.IntN.{*ℤ_comm}
use Rattle.whole_numbers.specs.Divisors.{gcd_of_all}
use Rattle.whole_numbers.proofs.CommonDivisors.{DividesEach-gcd_of_all, gcd_of_all-positive}
use Rattle.whole_numbers.proofs.Quotients.{int_div-*ℤ}
use Rattle.whole_numbers.proofs.Ring.{unsigned_abs-+ℤ, *ℤ_cancel, *ℤ_assoc, *ℤ_right_comm, *ℤ-positive}
use Rattle.linear_terms.specs.declared.col.Col.{Col}
use Rattle.linear_terms.specs.declared.row.Row.{Row}
use Rattle.linear_terms.specs.Polynomial.{Polynomial}
use Rattle.farkas_check.specs.Calm.{row_frame}
use Rattle.farkas_check.specs.Frames.{line_count, AreUpTo, IsCalmUpTo}
use Rattle.farkas_check.specs.Ratios.{Fraction, whole}
use Rattle.farkas_check.specs.Relations.{places}
use Rattle.farkas_check.proofs.PointValues.{Stands}
use Rattle.simplex.specs.Exchange.{choices_of}
use Rattle.simplex.specs.Points.{IsCornerPoint, IsRayPoint, IsPointOf}
use Rattle.simplex.specs.Raise.{sign_of}
use Rattle.simplex.specs.Rows.{kinds_of}
use Rattle.simplex.specs.Search.{IsMet, IsCornerOf}
use Rattle.simplex.specs.Spots.{sums_of}
use Rattle.simplex.specs.Suprema.{with_goal, frame_over, IsOpened, IsRayOf}
use Rattle.simplex.specs.declared.tableau.Tableau.{Tableau}
use Rattle.simplex.proofs.Calmness.{whole_over, multiple_of, at_place, divided_each, smaller, lines-length}
use Rattle.simplex.proofs.CalmPoints.{tableau_is, row-inside, lines-none, row_tableau, column_within}
use Rattle.simplex.proofs.Exchanges.{factor_positive}
use Rattle.simplex.proofs.Moves.{shift, shift_chosen, shift_free, shift_own}
use Rattle.simplex.proofs.Numerators.{AreSums, sums-ratio}
use Rattle.simplex.proofs.Rays.{ray_shift, slope_stands}
use Rattle.simplex.proofs.SpotPoints.{above, corner_each, IsGrowing, growing}
use Rattle.simplex.proofs.RowCorners.{find_choice}
use Rattle.simplex.proofs.Widths.{IsRatio}

-- ---- one column

-- what all columns of the case are where one column has moved, over the least common denominator
pub record IsSmallShift (cs : List (List Col)) (t : Tableau) (column : ℕ) : Type 0 where
  pub bottom : ℤ
  pub number : ℕ → ℤ
  pub common : ℤ
  pub common_above : pos 0 <ℤ common
  pub bottom_is : bottom *ℤ common ≡ whole_over t
  pub number_is : (j : ℕ) → j < length cs → number j *ℤ common ≡ shift t column j
  pub bottom_small : unsigned_abs bottom ≤ 1048576
  pub small : (j : ℕ) → j < length cs → unsigned_abs (number j) ≤ 1048576

not_zero : (z : ℤ) → pos 0 <ℤ z → z ≡ pos 0 → ⊥
not_zero z h e = omega (arith, ints, h, e)

size_below : (z : ℤ) → unsigned_abs (pos 0 -ℤ z) ≡ unsigned_abs z
size_below z = omega (arith, ints)

-- a number that the divisor divides, and that is not great beside it
record IsPartial (g : ℕ) (z : ℤ) : Type 0 where
  pub divides : g ∣ unsigned_abs z
  pub small : unsigned_abs z ≤ 1048576 * g

module _ (cs : List (List Col)) (rows : List Row) (p : Polynomial) (enters : List Bool) (t : Tableau) (k : IsMet (frame_over cs rows p) (length cs) (kinds_of (with_goal rows p)) enters t) (calm : IsCalmUpTo 1048576 (row_frame cs rows)) where
  pub small_shift : (column : ℕ) → column < length cs + 1 + length rows → ((i : ℕ) → i < length t.lines → choices_of t i ≢ column) → IsSmallShift cs t column
  small_shift column within free = record {
    bottom = int_div (whole_over t) (pos g);
    number = λ j. int_div (shift t column j) (pos g);
    common = pos g;
    common_above = omega (arith, ints, g_above);
    bottom_is = int_div-*ℤ (whole_over t) g own.divides;
    number_is = λ j h. int_div-*ℤ (shift t column j) g (at j h).divides;
    bottom_small = quotient_small (whole_over t) own;
    small = λ j h. quotient_small (shift t column j) (at j h);
  }
    where
      numbers : List ℤ
      numbers = whole_over t ∷ map (λ i. multiple_of t i column) (places (line_count (row_frame cs rows)))

      g : ℕ
      g = gcd_of_all numbers

      whole_above : pos 0 <ℤ whole_over t
      whole_above = above cs rows p (kinds_of (with_goal rows p)) enters t k

      g_above : 0 < gcd_of_all (whole_over t ∷ map (λ i. multiple_of t i column) (places (line_count (row_frame cs rows))))
      g_above = gcd_of_all-positive (whole_over t) (map (λ i. multiple_of t i column) (places (line_count (row_frame cs rows)))) (not_zero (whole_over t) whole_above)

      up_to : AreUpTo 1048576 numbers
      up_to = calm.columns (map (choices_of t) (places (length rows))) (whole_over t) (multiple_of t) (row_tableau cs rows p enters t k) column (subst (λ (n : ℕ). column < length cs + 1 + n) (sym (lines-length cs rows)) within)

      each_divided : AllByRecursion (λ z. g ∣ unsigned_abs z) numbers
      each_divided = divided_each g numbers (DividesEach-gcd_of_all numbers)

      own : IsPartial g (whole_over t)
      own = record { divides = each_divided.0; small = up_to.0 }

      of_line : (i : ℕ) → i < length rows → IsPartial g (pos 0 -ℤ multiple_of t i column)
      of_line i h = record {
        divides = subst (λ (n : ℕ). g ∣ n) (sym (size_below (multiple_of t i column))) (at_place (λ z. g ∣ unsigned_abs z) (λ i. multiple_of t i column) (line_count (row_frame cs rows)) i each_divided.1 (subst (λ (n : ℕ). i < n) (sym (lines-length cs rows)) h));
        small = subst (λ (n : ℕ). n ≤ 1048576 * g) (sym (size_below (multiple_of t i column))) (at_place (λ z. unsigned_abs z ≤ 1048576 * g) (λ i. multiple_of t i column) (line_count (row_frame cs rows)) i up_to.1 (subst (λ (n : ℕ). i < n) (sym (lines-length cs rows)) h));
      }

      nothing : IsPartial g (pos 0)
      nothing = record { divides = dvd-zero g; small = omega arith }

      at : (j : ℕ) → j < length cs → IsPartial g (shift t column j)
      at j h = ⊎_elim (λ (e : column ≡ j). subst (IsPartial g) (sym (ap (shift t column) (sym e) ∙ shift_own t column free)) own)
          (λ apart. ⊎_elim (λ found. subst (IsPartial g) (sym (shift_chosen (frame_over cs rows p) t column j found.0 (tableau_is cs rows p enters t k) apart (row-inside cs rows p enters t k found.0 found.1.0) found.1.1)) (of_line found.0 found.1.0))
          (λ none. subst (IsPartial g) (sym (shift_free t column j apart (lines-none cs rows p enters t k j h none))) nothing) (find_choice (length rows) (choices_of t) j)) (cases_eq column j)

      quotient_small : (z : ℤ) → IsPartial g z → unsigned_abs (int_div z (pos g)) ≤ 1048576
      quotient_small z h = smaller (unsigned_abs (int_div z (pos g))) g g 1048576 g_above (subst (λ (n : ℕ). n ≤ 1048576 * g) (sym (sym (unsigned_abs-mul (int_div z (pos g)) (pos g)) ∙ ap unsigned_abs (int_div-*ℤ z g h.divides))) h.small) (omega arith)

-- ---- points

-- the numbers of a point over a common denominator
pub record IsSmallPoint (cs : List (List Col)) (most : ℕ) (at : List Fraction) : Type 0 where
  pub over : ℤ
  pub number : ℕ → ℤ
  pub positive : pos 0 <ℤ over
  pub each : length at ≡ length cs
  pub ratio : (j : ℕ) → j < length cs → IsRatio (get_or at j (whole (pos 0))) (number j) over
  pub over_small : unsigned_abs over ≤ most
  pub small : (j : ℕ) → j < length cs → unsigned_abs (number j) ≤ most + most

pub bottom_positive : (z k w : ℤ) → pos 0 <ℤ k → z *ℤ k ≡ w → pos 0 <ℤ w → pos 0 <ℤ z
bottom_positive z k w h e v = factor_positive k z h (subst (λ y. pos 0 <ℤ y) (sym (*ℤ_comm k z ∙ e)) v)

-- a ratio that stands for a number over the whole denominator stands for what is left of both
pub stands_less : (r : Fraction) (z w x d c : ℤ) → pos 0 <ℤ c → x *ℤ c ≡ z → d *ℤ c ≡ w → Stands r z w → Stands r x d
stands_less r z w x d c above e f h = record {
  same = *ℤ_cancel (r.num *ℤ d) (x *ℤ r.den) c above (*ℤ_assoc r.num d c ∙ ap (λ y. r.num *ℤ y) f ∙ h.same ∙ ap (λ y. y *ℤ r.den) (sym e) ∙ *ℤ_right_comm x c r.den);
  positive = h.positive;
}

-- the same over a multiple of the denominator
ratio_more : (r : Fraction) (x d by : ℤ) → IsRatio r x d → IsRatio r (x *ℤ by) (d *ℤ by)
ratio_more r x d by h = record {
  stands = record { same = sym (*ℤ_assoc r.num d by) ∙ ap (λ y. y *ℤ by) h.stands.same ∙ *ℤ_right_comm x r.den by; positive = h.stands.positive };
  lowest = h.lowest;
}

module _ (cs : List (List Col)) (rows : List Row) (p : Polynomial) (enters : List Bool) (t : Tableau) (k : IsMet (frame_over cs rows p) (length cs) (kinds_of (with_goal rows p)) enters t) (calm : IsCalmUpTo 1048576 (row_frame cs rows)) (point : List Fraction) (c : IsCornerOf t (length cs) (length cs) point) where
  pub corner_shift : IsSmallShift cs t (length cs)
  corner_shift = small_shift cs rows p enters t k calm (length cs) (omega arith) (λ i h. k.placed.marked.sized.apart i h)

  pub corner_ratio : (j : ℕ) → j < length cs → IsRatio (get_or point j (whole (pos 0))) (corner_shift.number j) corner_shift.bottom
  corner_ratio j h = record {
    stands = stands_less (get_or point j (whole (pos 0))) (shift t (length cs) j) (whole_over t) (corner_shift.number j) corner_shift.bottom corner_shift.common corner_shift.common_above (corner_shift.number_is j h) corner_shift.bottom_is (corner_each cs rows p enters t point j k c h);
    lowest = (c.same j h).lowest;
  }

  pub corner_bottom : pos 0 <ℤ corner_shift.bottom
  corner_bottom = bottom_positive corner_shift.bottom corner_shift.common (whole_over t) corner_shift.common_above corner_shift.bottom_is (above cs rows p (kinds_of (with_goal rows p)) enters t k)

  pub corner_small : IsSmallPoint cs 1048576 point
  corner_small = record {
    over = corner_shift.bottom;
    number = corner_shift.number;
    positive = corner_bottom;
    each = c.each;
    ratio = corner_ratio;
    over_small = corner_shift.bottom_small;
    small = λ j h. let g : unsigned_abs (corner_shift.number j) ≤ 1048576 = corner_shift.small j h in omega (arith, g);
  }

module _ (cs : List (List Col)) (rows : List Row) (p : Polynomial) (enters : List Bool) (t : Tableau) (column : ℕ) (up : Bool) (o : IsOpened (frame_over cs rows p) (length cs) (kinds_of (with_goal rows p)) enters column up t) (calm : IsCalmUpTo 1048576 (row_frame cs rows)) (point along : List Fraction) (c : IsCornerOf t (length cs) (length cs) point) (r : IsRayOf t column up (length cs) along) where
  g : IsGrowing cs rows t column
  g = growing cs rows p enters t column up o

  abbrev x : IsSmallShift cs t (length cs)
  x = corner_shift cs rows p enters t o.met calm point c

  abbrev y : IsSmallShift cs t column
  y = small_shift cs rows p enters t o.met calm column (column_within cs rows p enters t column up o) g.free

  x_above : pos 0 <ℤ x.bottom
  x_above = corner_bottom cs rows p enters t o.met calm point c

  y_above : pos 0 <ℤ y.bottom
  y_above = bottom_positive y.bottom y.common (whole_over t) y.common_above y.bottom_is (above cs rows p (kinds_of (with_goal rows p)) enters t o.met)

  ray_ratio : (j : ℕ) → j < length cs → IsRatio (get_or along j (whole (pos 0))) (sign_of up *ℤ y.number j) y.bottom
  ray_ratio j h = record {
    stands = stands_less (get_or along j (whole (pos 0))) (ray_shift t column up j) (whole_over t) (sign_of up *ℤ y.number j) y.bottom y.common y.common_above (*ℤ_assoc (sign_of up) (y.number j) y.common ∙ ap (λ z. sign_of up *ℤ z) (y.number_is j h)) y.bottom_is
        (slope_stands (frame_over cs rows p) t column up j (get_or along j (whole (pos 0))) o.met.placed.marked.sized.tableau g.free (r.same j h));
    lowest = (r.same j h).lowest;
  }

  sign_size : (up : Bool) (z : ℤ) → unsigned_abs (sign_of up *ℤ z) ≡ unsigned_abs z
  sign_size true z = unsigned_abs-mul (pos 1) z ∙ one-mul (unsigned_abs z)
  sign_size false z = unsigned_abs-mul (negsuc 0) z ∙ one-mul (unsigned_abs z)

  product_small : (a b : ℤ) → unsigned_abs a ≤ 1048576 → unsigned_abs b ≤ 1048576 → unsigned_abs (a *ℤ b) ≤ 1099511627776
  product_small a b e f = let m : unsigned_abs a * unsigned_abs b ≤ 1048576 * 1048576 = mul-le-mul e f in let n : unsigned_abs (a *ℤ b) ≡ unsigned_abs a * unsigned_abs b = unsigned_abs-mul a b in omega (arith, m, n)

  over_is : y.bottom *ℤ x.bottom ≡ x.bottom *ℤ y.bottom
  over_is = *ℤ_comm y.bottom x.bottom

  sums : (zs : List Fraction) × ((sums_of point along ≡ Ok zs) × AreSums zs (λ j. x.number j *ℤ y.bottom) (λ j. sign_of up *ℤ y.number j *ℤ x.bottom) (x.bottom *ℤ y.bottom) (length point))
  sums = sums-ratio 1099511627776 point along (λ j. x.number j *ℤ y.bottom) (λ j. sign_of up *ℤ y.number j *ℤ x.bottom) (x.bottom *ℤ y.bottom) (*ℤ-positive x.bottom y.bottom x_above y_above) (product_small x.bottom y.bottom x.bottom_small y.bottom_small) (omega arith) (c.each ∙ sym r.each)
      (λ j h. ratio_more (get_or point j (whole (pos 0))) (x.number j) x.bottom y.bottom (corner_ratio cs rows p enters t o.met calm point c j (subst (λ (n : ℕ). j < n) c.each h)))
      (λ j h. subst (λ d. IsRatio (get_or along j (whole (pos 0))) (sign_of up *ℤ y.number j *ℤ x.bottom) d) over_is (ratio_more (get_or along j (whole (pos 0))) (sign_of up *ℤ y.number j) y.bottom x.bottom (ray_ratio j (subst (λ (n : ℕ). j < n) c.each h))))
      (λ j h. product_small (x.number j) y.bottom (x.small j (subst (λ (n : ℕ). j < n) c.each h)) y.bottom_small)
      (λ j h. product_small (sign_of up *ℤ y.number j) x.bottom (subst (λ (n : ℕ). n ≤ 1048576) (sym (sign_size up (y.number j))) (y.small j (subst (λ (n : ℕ). j < n) c.each h))) x.bottom_small)

  pub ray_sums : (zs : List Fraction) × (sums_of point along ≡ Ok zs)
  ray_sums = (sums.0, sums.1.0)

  pub ray_small : (at : List Fraction) → sums_of point along ≡ Ok at → IsSmallPoint cs 1099511627776 at
  ray_small at e = subst (IsSmallPoint cs 1099511627776) same (record {
    over = x.bottom *ℤ y.bottom;
    number = λ j. x.number j *ℤ y.bottom +ℤ sign_of up *ℤ y.number j *ℤ x.bottom;
    positive = *ℤ-positive x.bottom y.bottom x_above y_above;
    each = sums.1.1.each ∙ c.each;
    ratio = λ j h. sums.1.1.ratio j (subst (λ (n : ℕ). j < n) (sym c.each) h);
    over_small = product_small x.bottom y.bottom x.bottom_small y.bottom_small;
    small = λ j h. both j h;
  })
    where
      same : sums.0 ≡ at
      same = let f : Ok sums.0 ≡ Ok at = sym sums.1.0 ∙ e in cc

      both : (j : ℕ) → j < length cs → unsigned_abs (x.number j *ℤ y.bottom +ℤ sign_of up *ℤ y.number j *ℤ x.bottom) ≤ 1099511627776 + 1099511627776
      both j h =
          let a : unsigned_abs (x.number j *ℤ y.bottom) ≤ 1099511627776 = product_small (x.number j) y.bottom (x.small j h) y.bottom_small in
          let b : unsigned_abs (sign_of up *ℤ y.number j *ℤ x.bottom) ≤ 1099511627776 = product_small (sign_of up *ℤ y.number j) x.bottom (subst (λ (n : ℕ). n ≤ 1048576) (sym (sign_size up (y.number j))) (y.small j h)) x.bottom_small in
          let d : unsigned_abs (x.number j *ℤ y.bottom +ℤ sign_of up *ℤ y.number j *ℤ x.bottom) ≤ unsigned_abs (x.number j *ℤ y.bottom) + unsigned_abs (sign_of up *ℤ y.number j *ℤ x.bottom) = unsigned_abs-+ℤ (x.number j *ℤ y.bottom) (sign_of up *ℤ y.number j *ℤ x.bottom) in omega (arith, a, b, d)

-- a greater bound
pub more_room : (cs : List (List Col)) (at : List Fraction) → IsSmallPoint cs 1048576 at → IsSmallPoint cs 1099511627776 at
more_room cs at h = record {
  over = h.over;
  number = h.number;
  positive = h.positive;
  each = h.each;
  ratio = h.ratio;
  over_small = let g : unsigned_abs h.over ≤ 1048576 = h.over_small in omega (arith, g);
  small = λ j k. let g : unsigned_abs (h.number j) ≤ 1048576 + 1048576 = h.small j k in omega (arith, g);
}

-- each point that the search meets
pub point_small : (cs : List (List Col)) (rows : List Row) (at : List Fraction) → IsCalmUpTo 1048576 (row_frame cs rows) → IsPointOf cs rows at → IsSmallPoint cs 1099511627776 at
point_small cs rows at calm is = ⊎_elim
    (λ (c : IsCornerPoint cs rows at). more_room cs at (corner_small cs rows c.objective c.enters c.tableau c.met calm at c.corner))
    (λ (c : IsRayPoint cs rows at). ray_small cs rows c.objective c.enters c.tableau c.column c.up c.opened calm c.point c.ray c.corner c.along at c.sum) is
