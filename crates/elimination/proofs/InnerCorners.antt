-- A corner of few columns and small numbers: its numbers are small over one small denominator.
use Rattle.std.proofs.Common.{◌≡◌, ◌≢◌, ℕ, ◌+◌, ◌*◌, ◌<◌, ◌≤◌, List, [], map, length, get_or, refl, sym, ap, subst, ◌∙◌, arith, ⊎_elim, ℤ, pos, negsuc, ◌-ℤ◌, ◌*ℤ◌, ◌≤ℤ◌, ◌<ℤ◌}
use Rattle.std.specs.Prelude.{◌^◌, unsigned_abs}
use Rattle.std.specs.List.{AllByRecursion}
use Rattle.std.proofs.lemmas.Int.{ints, by_lt_z}
use Rattle.std.proofs.Math.IntN.{zero-*ℤ}
use Rattle.std.proofs.Math.Nat.{pow-le-pow_left, pow-le-pow_right}
use Rattle.whole_numbers.proofs.Ring.{ring, one-*ℤ, *ℤ_cancel}
use Rattle.linear_terms.specs.declared.col.Col.{Col}
use Rattle.linear_terms.specs.declared.row.Row.{Row}
use Rattle.farkas_check.specs.Calm.{row_frame}
use Rattle.farkas_check.specs.Frames.{number_in, line_count}
use Rattle.farkas_check.specs.Ratios.{Fraction, whole}
use Rattle.farkas_check.specs.Relations.{places}
use Rattle.farkas_check.specs.Sizes.{row_polys, HasNumbersUpTo}
use Rattle.farkas_check.proofs.PointValues.{Stands}
use Rattle.simplex.specs.Exchange.{choices_of}
use Rattle.simplex.specs.Points.{IsCornerPoint}
use Rattle.simplex.specs.Suprema.{frame_over}
use Rattle.simplex.specs.declared.tableau.Tableau.{Tableau}
use Rattle.simplex.proofs.Calmness.{whole_over, multiple_of, lines-length}
use Rattle.simplex.proofs.CalmPoints.{tableau_is, row-inside, lines-none, row_tableau}
use Rattle.simplex.proofs.Moves.{shift, shift_chosen}
use Rattle.simplex.proofs.Numerators.{IsRatioBelow}
use Rattle.simplex.proofs.SpotPoints.{corner_each}
use Rattle.simplex.proofs.RowCorners.{find_choice}
use Rattle.elimination.specs.Descents.{AreRatiosBelow}
use Rattle.elimination.proofs.Frames.{has_units, writes_of}
use Rattle.elimination.proofs.Multiples.{HasColumn, column_of_tableau}
use Rattle.elimination.proofs.Narrowness.{lines-small}
use Rattle.elimination.proofs.NullEquations.{each_from}

-- ---- sizes and signs

-- the magnitude of a number, and its sign
record IsSize (z : ℤ) : Type 0 where
  size : ℤ
  sign : ℤ
  positive : pos 0 <ℤ size
  is : sign *ℤ z ≡ size
  same : unsigned_abs size ≡ unsigned_abs z
  times : (y : ℤ) → unsigned_abs (sign *ℤ y) ≡ unsigned_abs y

sized : (z : ℤ) → (z ≡ pos 0 → ⊥) → IsSize z
sized z apart = by_lt_z z (pos 0) (λ less. negative less) (λ more. positive more)
  where
    negative : z <ℤ pos 0 → IsSize z
    negative h = record { size = negsuc 0 *ℤ z; sign = negsuc 0; positive = omega (arith, ints, h); is = refl; same = omega (arith, ints); times = λ y. turned y }
      where
        turned : (y : ℤ) → unsigned_abs (negsuc 0 *ℤ y) ≡ unsigned_abs y
        turned y = omega (arith, ints)

    positive : pos 0 ≤ℤ z → IsSize z
    positive h = record { size = z; sign = pos 1; positive = some (λ e. apart e); is = one-*ℤ z; same = refl; times = λ y. ap unsigned_abs (one-*ℤ y) }
      where
        some : (z ≡ pos 0 → ⊥) → pos 0 <ℤ z
        some n = by_lt_z (pos 0) z (λ l. l) (λ l. absurd (n (let e : z ≡ pos 0 = omega (arith, ints, h, l) in e)))

-- a number over one denominator, and over another to which it is proportional
proportional : (n den over m top bottom sign size minus : ℤ) → n *ℤ over ≡ minus *ℤ m *ℤ den → over *ℤ top ≡ bottom *ℤ m → sign *ℤ bottom ≡ size → pos 0 <ℤ over → n *ℤ size ≡ sign *ℤ (minus *ℤ top) *ℤ den
proportional n den over m top bottom sign size minus stands is size_is above =
    *ℤ_cancel (n *ℤ size) (sign *ℤ (minus *ℤ top) *ℤ den) over above
    (ap (λ z. n *ℤ z *ℤ over) (sym size_is) ∙ first n sign bottom over ∙ ap (λ z. sign *ℤ bottom *ℤ z) stands ∙ second sign bottom minus m den ∙ ap (λ z. sign *ℤ den *ℤ (minus *ℤ z)) (sym is) ∙ third sign den minus over top)
  where
    first : (n s b o : ℤ) → n *ℤ (s *ℤ b) *ℤ o ≡ s *ℤ b *ℤ (n *ℤ o)
    first n s b o = simp ring (omega (arith, ints))

    second : (s b u m d : ℤ) → s *ℤ b *ℤ (u *ℤ m *ℤ d) ≡ s *ℤ d *ℤ (u *ℤ (b *ℤ m))
    second s b u m d = simp ring (omega (arith, ints))

    third : (s d u o t : ℤ) → s *ℤ d *ℤ (u *ℤ (o *ℤ t)) ≡ s *ℤ (u *ℤ t) *ℤ d *ℤ o
    third s d u o t = simp ring (omega (arith, ints))

-- ---- the corner

module _ (cs : List (List Col)) (rows : List Row) (few : length cs ≤ 4) (all_small : AllByRecursion (HasNumbersUpTo 4) (row_polys rows [])) (point : List Fraction) (c : IsCornerPoint cs rows point) where
  abbrev t : Tableau
  t = c.tableau

  -- how great the numbers of a column are at most
  abbrev most : ℕ
  most = ((length cs + 1) * 4) ^ (length cs + 1)

  -- the point's number at a place
  abbrev ratio : ℕ → Fraction
  ratio j = get_or point j (whole (pos 0))

  abbrev chosen : List ℕ
  chosen = map (choices_of t) (places (length rows))

  over_above : pos 0 <ℤ whole_over t
  over_above = (row_tableau cs rows c.objective c.enters t c.met).positive

  column : HasColumn most (line_count (row_frame cs rows)) (whole_over t) (multiple_of t) (length cs)
  column =
      column_of_tableau 4 (line_count (row_frame cs rows)) (length cs + 1) (number_in (row_frame cs rows)) (λ k. get_or chosen k 0) (whole_over t) (multiple_of t) (length cs)
      (has_units 4 (row_frame cs rows) (λ l j. lines-small 4 cs (row_polys rows []) l j all_small))
      (writes_of (row_frame cs rows) chosen (whole_over t) (multiple_of t) (row_tableau cs rows c.objective c.enters t c.met))
      (omega arith) (omega arith) (omega arith)

  room : most ≤ 20 ^ 5
  room =
      let base : (length cs + 1) * 4 ≤ 20 = omega (arith, few) in
      let exponent : length cs + 1 ≤ 5 = omega (arith, few) in
      let x : most ≤ 20 ^ (length cs + 1) = pow-le-pow_left base (length cs + 1) in
      let y : 20 ^ (length cs + 1) ≤ 20 ^ 5 = pow-le-pow_right {n = 20} (omega arith) exponent in
      omega (arith, x, y)

  z : IsSize column.bottom
  z = sized column.bottom column.apart

  apart : (j : ℕ) → j < length cs → length cs ≢ j
  apart j h e = absurd (omega (arith, h, e))

  stands : (j : ℕ) → j < length cs → Stands (ratio j) (shift t (length cs) j) (whole_over t)
  stands j h = corner_each cs rows c.objective c.enters t point j c.met c.corner h

  minus : (y : ℤ) → pos 0 -ℤ y ≡ negsuc 0 *ℤ y
  minus y = omega (arith, ints)

  turned_size : (y : ℤ) → unsigned_abs (negsuc 0 *ℤ y) ≡ unsigned_abs y
  turned_size y = omega (arith, ints)

  line_many : (k : ℕ) → k < length rows → k < line_count (row_frame cs rows)
  line_many k h = subst (λ (n : ℕ). k < n) (sym (lines-length cs rows)) h

  chosen_below : (j : ℕ) → j < length cs → (k : ℕ) → k < length rows → choices_of t k ≡ j → IsRatioBelow (20 ^ 5) z.size (ratio j)
  chosen_below j h k inside is = record {
    number = z.sign *ℤ (negsuc 0 *ℤ column.top k);
    is = record {
      stands = record {
        same = proportional (ratio j).num (ratio j).den (whole_over t) (multiple_of t k (length cs)) (column.top k) column.bottom z.sign z.size (negsuc 0)
            ((stands j h).same ∙ ap (λ y. y *ℤ (ratio j).den) (shift_chosen (frame_over cs rows c.objective) t (length cs) j k (tableau_is cs rows c.objective c.enters t c.met) (apart j h) (row-inside cs rows c.objective c.enters t c.met k inside) is ∙ minus (multiple_of t k (length cs))))
            (column.is k (line_many k inside)) z.is over_above;
        positive = (stands j h).positive;
      };
      lowest = (c.corner.same j h).lowest;
    };
    small =
        let a : unsigned_abs (z.sign *ℤ (negsuc 0 *ℤ column.top k)) ≡ unsigned_abs (negsuc 0 *ℤ column.top k) = z.times (negsuc 0 *ℤ column.top k) in
        let b : unsigned_abs (negsuc 0 *ℤ column.top k) ≡ unsigned_abs (column.top k) = turned_size (column.top k) in
        let d : unsigned_abs (column.top k) ≤ most = column.top_small k (line_many k inside) in
        let e : most ≤ 20 ^ 5 = room in
        below_all (unsigned_abs (z.sign *ℤ (negsuc 0 *ℤ column.top k))) (unsigned_abs (negsuc 0 *ℤ column.top k)) (unsigned_abs (column.top k)) most (20 ^ 5) a b d e;
  }
    where
      below_all : (a b c d e : ℕ) → a ≡ b → b ≡ c → c ≤ d → d ≤ e → a ≤ e
      below_all a b c d e f g h k = omega (arith, f, g, h, k)

  free_below : (j : ℕ) → j < length cs → ((k : ℕ) → k < length rows → choices_of t k ≢ j) → IsRatioBelow (20 ^ 5) z.size (ratio j)
  free_below j h none = record {
    number = pos 0;
    is = record {
      stands = record {
        same = ap (λ y. y *ℤ z.size) ((c.corner.same j h).free (lines-none cs rows c.objective c.enters t c.met j h none)) ∙ zero-*ℤ z.size ∙ sym (zero-*ℤ (ratio j).den);
        positive = (stands j h).positive;
      };
      lowest = (c.corner.same j h).lowest;
    };
    small = omega arith;
  }

  at_column : (j : ℕ) → j < length cs → IsRatioBelow (20 ^ 5) z.size (ratio j)
  at_column j h = ⊎_elim (λ found. chosen_below j h found.0 found.1.0 found.1.1) (λ none. free_below j h none) (find_choice (length rows) (choices_of t) j)

  pub small_corner : AreRatiosBelow (20 ^ 5) point
  small_corner = record {
    over = z.size;
    positive = z.positive;
    small = let a : unsigned_abs z.size ≡ unsigned_abs column.bottom = z.same in let b : unsigned_abs column.bottom ≤ most = column.bottom_small in within (unsigned_abs z.size) (unsigned_abs column.bottom) most (20 ^ 5) a b room;
    each = each_from (IsRatioBelow (20 ^ 5) z.size) point (whole (pos 0)) (λ j h. at_column j (subst (λ (n : ℕ). j < n) c.corner.each h));
  }
    where
      within : (a b c d : ℕ) → a ≡ b → b ≤ c → c ≤ d → a ≤ d
      within a b c d e f g = omega (arith, e, f, g)
