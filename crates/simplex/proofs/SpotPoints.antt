-- The points that a search for a basis meets make the rows of their case true: no part of the test
-- of a spot is false.
use Rattle.std.proofs.Common.{◌≡◌, ◌≢◌, ◌⊎◌, inl, inr, ℕ, zero, suc, ◌+◌, ◌<◌, Bool, true, false, cond, List, [], ◌∷◌, length, get_or, Result, Ok, Err, refl, sym, ap, subst, ◌∙◌, arith, ⊎_elim, ℤ, pos, ◌+ℤ◌, ◌-ℤ◌, ◌*ℤ◌, ◌<ℤ◌}
use Rattle.std.specs.Prelude.{◌==◌, ◌&&◌, nat_lt, slice_get, Some}
use Rattle.std.specs.List.{AllByRecursion}
use Rattle.std.specs.Map.{keys_of}
use Rattle.std.specs.Ordering.{eq_by_cmp}
use Rattle.std.proofs.lemmas.Int.{ints}
use Rattle.std.proofs.lemmas.Bool.{eq-eqb, lt-ltb, false≢true}
use Rattle.std.proofs.lemmas.List.Elements.{recursion_from_All}
use Rattle.items.specs.Gives.{◌>>=◌}
use Rattle.items.proofs.Gives.{on_ok}
use Rattle.whole_numbers.specs.declared.wide.Wide as Step
use Rattle.whole_numbers.proofs.Ring.{*ℤ-+ℤ}
use Rattle.linear_terms.specs.declared.col.Col.{Col}
use Rattle.linear_terms.specs.declared.row.Kind.{Kind}
use Rattle.linear_terms.specs.declared.row.Kind.TheVariants.{AtMost, Equal}
use Rattle.linear_terms.specs.declared.row.Row.{Row}
use Rattle.linear_terms.specs.Mono.{mono_cmp}
use Rattle.linear_terms.specs.Polynomial.{Polynomial, Terms, IsCanonical}
use Rattle.linear_terms.specs.Row.{IsWithin, is_within}
use Rattle.farkas_check.specs.Kept.{IsCanonicalChange, IsCanonicalStratum}
use Rattle.farkas_check.specs.Meaning.{terms_at}
use Rattle.farkas_check.specs.Parts.{and_then}
use Rattle.farkas_check.specs.Points.{ratio_at, ratio_value, meets}
use Rattle.farkas_check.specs.Ratios.{Fraction, whole, ratio_sum}
use Rattle.farkas_check.specs.Relations.{stratum_columns, case_monos}
use Rattle.farkas_check.specs.Stratum.{all_of, rows_of, spot_value, tested_spot}
use Rattle.farkas_check.specs.declared.answer.Cert.{Cert}
use Rattle.farkas_check.specs.declared.stratum.Change.{Change}
use Rattle.farkas_check.specs.declared.stratum.Spot.{Spot}
use Rattle.farkas_check.proofs.Farkas.{bool_ok}
use Rattle.farkas_check.proofs.PointValues.{Stands, Stands-sum, ratio_value-stands}
use Rattle.farkas_check.proofs.Spreads.{AreAmong}
use Rattle.farkas_check.proofs.Vanishing.{IsCaseAmong, cases_among}
use Rattle.farkas_check.proofs.Walks.{IsOrdered, IsOrdered-columns}
use Rattle.simplex.specs.Exchange.{numbers_of, choices_of}
use Rattle.simplex.specs.Points.{IsCornerPoint, IsRayPoint, IsPointOf, IsSpotAt}
use Rattle.simplex.specs.Raise.{sign_of}
use Rattle.simplex.specs.Rows.{kinds_of}
use Rattle.simplex.specs.Search.{IsMet, IsCornerOf}
use Rattle.simplex.specs.Spots.{sums_of}
use Rattle.simplex.specs.Suprema.{with_goal, frame_over, IsOpened, IsSupremumOver}
use Rattle.simplex.specs.declared.supremum.Supremum.TheVariants as supremum
use Rattle.simplex.specs.declared.tableau.Tableau.{Tableau}
use Rattle.simplex.proofs.BoundCertificates.{kind_before}
use Rattle.simplex.proofs.Cases.{at_place}
use Rattle.simplex.proofs.Exchanges.{times_zero}
use Rattle.simplex.proofs.RowTableaux.{kinds-length}
use Rattle.simplex.proofs.Moves.{shift, shift_own, shift_free, moved_row, corner_within}
use Rattle.simplex.proofs.Objectives.{more_rows}
use Rattle.simplex.proofs.Rays.{ray_shift, terms_at-times, column_free, slope_stands, ray_within}
use Rattle.simplex.proofs.GoalCorners.{slice_before, whole_of}
use Rattle.simplex.proofs.RowCorners.{numbered, stands_each, stands-at, row_within, all_at, each_row, kind_row, within_back, meets-honest, over-positive}

-- numbers over one denominator for which a point stands, and at which the rows are true
pub record IsTrueAt (cs : List (List Col)) (rows : List Row) (at : List Fraction) : Type 0 where
  pub each : length at ≡ length cs
  pub number : List Col → ℤ
  pub over : ℤ
  pub positive : pos 0 <ℤ over
  pub stands : (m : List Col) → Stands (ratio_at cs at m) (number m) over
  pub within : (l : ℕ) (row : Row) → slice_get rows l ≡ Some row → IsWithin row.kind (terms_at number row.poly.terms +ℤ row.poly.rest *ℤ over)

pub true_meets : (cs : List (List Col)) (rows : List Row) (at : List Fraction) (b : Bool) → IsTrueAt cs rows at → meets (ratio_value (ratio_at cs at)) rows ≡ Ok b → b ≡ true
true_meets cs rows at b t e = meets-honest (ratio_value (ratio_at cs at)) rows (each_row (λ (row : Row). (v : Fraction) → ratio_value (ratio_at cs at) row.poly ≡ Ok v → is_within row.kind v.num ≡ true) rows one) b e
  where
    one : (l : ℕ) (row : Row) → slice_get rows l ≡ Some row → (v : Fraction) → ratio_value (ratio_at cs at) row.poly ≡ Ok v → is_within row.kind v.num ≡ true
    one l row here v f = within_back row.kind v (terms_at t.number row.poly.terms +ℤ row.poly.rest *ℤ t.over) t.over t.positive (ratio_value-stands (ratio_at cs at) t.number t.over row.poly v t.stands f) (t.within l row here)

-- ---- corners

pub above : (cs : List (List Col)) (rows : List Row) (p : Polynomial) (kinds : List Kind) (enters : List Bool) (t : Tableau) → IsMet (frame_over cs rows p) (length cs) kinds enters t → pos 0 <ℤ whole_of t
above cs rows p kinds enters t k = over-positive (length t.lines) (λ i. numbers_of t i (choices_of t i)) (λ i h. k.placed.marked.sized.tableau.is.own i h)

lines_many : (rows : List Row) (p : Polynomial) → length (kinds_of (with_goal rows p)) ≡ length rows + 1
lines_many rows p = kinds-length (with_goal rows p) ∙ more_rows rows p

-- what the constants' column is worth at a row
corner_row : (cs : List (List Col)) (rows : List Row) (p : Polynomial) (enters : List Bool) (t : Tableau) (l : ℕ) (row : Row) → IsOrdered cs → IsMet (frame_over cs rows p) (length cs) (kinds_of (with_goal rows p)) enters t → IsCanonical row.poly.terms → AreAmong (keys_of row.poly.terms) cs → slice_get rows l ≡ Some row
    → terms_at (numbered cs (shift t (length cs))) row.poly.terms +ℤ row.poly.rest *ℤ whole_of t ≡ pos 0 -ℤ shift t (length cs) (length cs + 1 + l)
corner_row cs rows p enters t l row ordered k canonical among here =
    ap (λ z. terms_at (numbered cs (shift t (length cs))) row.poly.terms +ℤ row.poly.rest *ℤ z) (sym (shift_own t (length cs) k.placed.marked.sized.apart))
    ∙ moved_row cs (with_goal rows p) t (length cs) l row ordered canonical among (sym k.placed.marked.sized.many ∙ kinds-length (with_goal rows p)) k.placed.marked.sized.tableau (omega arith) (slice_before rows p l row here)

corner_true : (cs : List (List Col)) (rows : List Row) (p : Polynomial) (enters : List Bool) (t : Tableau) (l : ℕ) (row : Row) → IsOrdered cs → IsMet (frame_over cs rows p) (length cs) (kinds_of (with_goal rows p)) enters t → IsCanonical row.poly.terms → AreAmong (keys_of row.poly.terms) cs → slice_get rows l ≡ Some row
    → IsWithin row.kind (terms_at (numbered cs (shift t (length cs))) row.poly.terms +ℤ row.poly.rest *ℤ whole_of t)
corner_true cs rows p enters t l row ordered k canonical among here =
    subst (λ z. IsWithin row.kind z) (sym (corner_row cs rows p enters t l row ordered k canonical among here))
    (corner_within (frame_over cs rows p) (length cs) (kinds_of (with_goal rows p)) enters t l row.kind k inside (let g : length t.lines ≡ length rows + 1 = sym k.placed.marked.sized.many ∙ lines_many rows p in omega (arith, g, inside)) (kind_before rows p l inside ∙ kind_row rows l row here))
  where
    inside : l < length rows
    inside = row_within rows l row here

pub corner_each : (cs : List (List Col)) (rows : List Row) (p : Polynomial) (enters : List Bool) (t : Tableau) (point : List Fraction) (j : ℕ) → IsMet (frame_over cs rows p) (length cs) (kinds_of (with_goal rows p)) enters t → IsCornerOf t (length cs) (length cs) point → j < length cs → Stands (get_or point j (whole (pos 0))) (shift t (length cs) j) (whole_of t)
corner_each cs rows p enters t point j k c h = stands-at (frame_over cs rows p) t (length cs) j (get_or point j (whole (pos 0))) k.placed.marked.sized.tableau (λ same. absurd (omega (arith, h, same))) (c.same j h)

-- each number of the corner stands over the tableau's denominator
pub corner_stands : (cs : List (List Col)) (rows : List Row) (at : List Fraction) (c : IsCornerPoint cs rows at) (m : List Col) → Stands (ratio_at cs at m) (numbered cs (shift c.tableau (length cs)) m) (whole_of c.tableau)
corner_stands cs rows at c m = stands_each cs at (shift c.tableau (length cs)) (whole_of c.tableau) m c.corner.each (λ j h. corner_each cs rows c.objective c.enters c.tableau at j c.met c.corner h)

corner_is_true : (cs : List (List Col)) (rows : List Row) (at : List Fraction) → IsOrdered cs → AllByRecursion (λ (r : Row). IsCanonical r.poly.terms) rows → AllByRecursion (λ (r : Row). AreAmong (keys_of r.poly.terms) cs) rows → IsCornerPoint cs rows at → IsTrueAt cs rows at
corner_is_true cs rows at ordered canonical among c = record {
  each = c.corner.each;
  number = numbered cs (shift c.tableau (length cs));
  over = whole_of c.tableau;
  positive = above cs rows c.objective (kinds_of (with_goal rows c.objective)) c.enters c.tableau c.met;
  stands = corner_stands cs rows at c;
  within = λ l row here. corner_true cs rows c.objective c.enters c.tableau l row ordered c.met (all_at (λ (r : Row). IsCanonical r.poly.terms) rows l row canonical here) (all_at (λ (r : Row). AreAmong (keys_of r.poly.terms) cs) rows l row among here) here;
}

-- ---- a corner and a ray

sum_each : (xs ys zs : List Fraction) (f g : ℕ → ℤ) (d : ℤ) → length xs ≡ length ys → sums_of xs ys ≡ Ok zs → ((j : ℕ) → j < length xs → Stands (get_or xs j (whole (pos 0))) (f j) d) → ((j : ℕ) → j < length ys → Stands (get_or ys j (whole (pos 0))) (g j) d)
    → (length zs ≡ length xs) × ((j : ℕ) → j < length xs → Stands (get_or zs j (whole (pos 0))) (f j +ℤ g j) d)
sum_each [] ys zs f g d same e p q = (ap length (let n : zs ≡ [] = cc in n), λ j h. absurd (omega (arith, h)))
sum_each (x ∷ xs) [] zs f g d same e p q = absurd (omega (arith, same))
sum_each (x ∷ xs) (y ∷ ys) zs f g d same e p q =
    on_ok (ratio_sum x y) (λ z. sums_of xs ys >>= λ more. list_ok (z ∷ more)) zs e
    (λ z k n. on_ok (sums_of xs ys) (λ more. list_ok (z ∷ more)) zs n
    (λ more m o. joined z more (let all : z ∷ more ≡ zs = cc in all) (Stands-sum (f 0) (g 0) d x y z (p 0 (omega arith)) (q 0 (omega arith)) k) (sum_each xs ys more (λ j. f (suc j)) (λ j. g (suc j)) d (omega (arith, same)) m (λ j h. p (suc j) (omega (arith, h))) (λ j h. q (suc j) (omega (arith, h))))))
  where
    list_ok : List Fraction → Result (List Fraction) Step.Wide
    list_ok rs = Ok rs

    joined : (z : Fraction) (more : List Fraction) → z ∷ more ≡ zs → Stands z (f 0 +ℤ g 0) d → (length more ≡ length xs) × ((j : ℕ) → j < length xs → Stands (get_or more j (whole (pos 0))) (f (suc j) +ℤ g (suc j)) d)
        → (length zs ≡ suc (length xs)) × ((j : ℕ) → j < suc (length xs) → Stands (get_or zs j (whole (pos 0))) (f j +ℤ g j) d)
    joined z more all first rest = (sym (ap length all) ∙ ap (λ (n : ℕ). suc n) rest.0, λ j h. subst (λ (rs : List Fraction). Stands (get_or rs j (whole (pos 0))) (f j +ℤ g j) d) all (at j h))
      where
        at : (j : ℕ) → j < suc (length xs) → Stands (get_or (z ∷ more) j (whole (pos 0))) (f j +ℤ g j) d
        at zero h = first
        at (suc j) h = rest.1 j (omega (arith, h))

numbered-plus : (cs : List (List Col)) (f g : ℕ → ℤ) (m : List Col) → numbered cs (λ j. f j +ℤ g j) m ≡ numbered cs f m +ℤ numbered cs g m
numbered-plus [] f g m = refl
numbered-plus (c ∷ cs) f g m = go (eq_by_cmp mono_cmp c m) (numbered-plus cs (λ j. f (suc j)) (λ j. g (suc j)) m)
  where
    go : (b : Bool) → numbered cs (λ j. f (suc j) +ℤ g (suc j)) m ≡ numbered cs (λ j. f (suc j)) m +ℤ numbered cs (λ j. g (suc j)) m
        → cond b (f 0 +ℤ g 0) (numbered cs (λ j. f (suc j) +ℤ g (suc j)) m) ≡ cond b (f 0) (numbered cs (λ j. f (suc j)) m) +ℤ cond b (g 0) (numbered cs (λ j. g (suc j)) m)
    go true e = refl
    go false e = e

pub terms_at-plus : (cs : List (List Col)) (f g : ℕ → ℤ) (ts : Terms) → terms_at (numbered cs (λ j. f j +ℤ g j)) ts ≡ terms_at (numbered cs f) ts +ℤ terms_at (numbered cs g) ts
terms_at-plus cs f g [] = refl
terms_at-plus cs f g (t ∷ ts) =
    ap (λ z. t.1 *ℤ z +ℤ terms_at (numbered cs (λ j. f j +ℤ g j)) ts) (numbered-plus cs f g t.0)
    ∙ ap (λ z. z +ℤ terms_at (numbered cs (λ j. f j +ℤ g j)) ts) (*ℤ-+ℤ t.1 (numbered cs f t.0) (numbered cs g t.0))
    ∙ ap (λ z. t.1 *ℤ numbered cs f t.0 +ℤ t.1 *ℤ numbered cs g t.0 +ℤ z) (terms_at-plus cs f g ts)
    ∙ mixed (t.1 *ℤ numbered cs f t.0) (t.1 *ℤ numbered cs g t.0) (terms_at (numbered cs f) ts) (terms_at (numbered cs g) ts)
  where
    mixed : (a b c d : ℤ) → a +ℤ b +ℤ (c +ℤ d) ≡ a +ℤ c +ℤ (b +ℤ d)
    mixed a b c d = omega (arith, ints)

both_within : (kind : Kind) (a b : ℤ) → IsWithin kind a → IsWithin kind b → IsWithin kind (a +ℤ b)
both_within AtMost a b p q = omega (arith, ints, p, q)
both_within Equal a b p q = omega (arith, ints, p, q)

-- the column along which the objective grows
pub record IsGrowing (cs : List (List Col)) (rows : List Row) (t : Tableau) (column : ℕ) : Type 0 where
  pub many : length t.lines ≡ length rows + 1
  pub apart : column ≢ length cs
  pub within : column < length cs + 1 + length t.lines
  pub free : (k : ℕ) → k < length t.lines → choices_of t k ≢ column

pub growing : (cs : List (List Col)) (rows : List Row) (p : Polynomial) (enters : List Bool) (t : Tableau) (column : ℕ) (up : Bool) → IsOpened (frame_over cs rows p) (length cs) (kinds_of (with_goal rows p)) enters column up t → IsGrowing cs rows t column
growing cs rows p enters t column up o = record {
  many = many;
  apart = ⊎_elim (λ (h : column < length cs). (λ e. absurd (omega (arith, h, e)))) (λ way. (λ e. absurd (let f : column ≡ length cs + 1 + (o.met.placed.marked.entering column way.0).row = (o.met.placed.marked.entering column way.0).is in omega (arith, f, e)))) o.way;
  within = ⊎_elim (λ (h : column < length cs). (let g : column < length cs + 1 + length t.lines = omega (arith, h) in g))
      (λ way. (let f : column ≡ length cs + 1 + (o.met.placed.marked.entering column way.0).row = (o.met.placed.marked.entering column way.0).is in let h : (o.met.placed.marked.entering column way.0).row < length t.lines = (o.met.placed.marked.entering column way.0).here in omega (arith, f, h))) o.way;
  free = column_free (frame_over cs rows p) (length cs) (kinds_of (with_goal rows p)) enters column up t o (omega (arith, many));
}
  where
    many : length t.lines ≡ length rows + 1
    many = sym o.met.placed.marked.sized.many ∙ lines_many rows p

ray_row : (cs : List (List Col)) (rows : List Row) (p : Polynomial) (enters : List Bool) (t : Tableau) (column : ℕ) (up : Bool) (l : ℕ) (row : Row) → IsOrdered cs → IsOpened (frame_over cs rows p) (length cs) (kinds_of (with_goal rows p)) enters column up t → IsCanonical row.poly.terms → AreAmong (keys_of row.poly.terms) cs → slice_get rows l ≡ Some row
    → IsWithin row.kind (terms_at (numbered cs (ray_shift t column up)) row.poly.terms)
ray_row cs rows p enters t column up l row ordered o canonical among here =
    subst (λ z. IsWithin row.kind z) (sym value)
    (ray_within (frame_over cs rows p) (length cs) (kinds_of (with_goal rows p)) enters column up t l row.kind o c.many inside (kind_before rows p l inside ∙ kind_row rows l row here))
  where
    c : IsGrowing cs rows t column
    c = growing cs rows p enters t column up o

    inside : l < length rows
    inside = row_within rows l row here

    no_constant : (x r z y : ℤ) → r *ℤ z ≡ pos 0 → x +ℤ r *ℤ z ≡ y → x ≡ y
    no_constant x r z y e f = plain x (r *ℤ z) y e f
      where
        plain : (x w y : ℤ) → w ≡ pos 0 → x +ℤ w ≡ y → x ≡ y
        plain x w y g f = omega (arith, ints, g, f)

    value : terms_at (numbered cs (ray_shift t column up)) row.poly.terms ≡ sign_of up *ℤ (pos 0 -ℤ shift t column (length cs + 1 + l))
    value =
        terms_at-times (sign_of up) cs (shift t column) row.poly.terms
        ∙ ap (λ z. sign_of up *ℤ z) (no_constant (terms_at (numbered cs (shift t column)) row.poly.terms) row.poly.rest (shift t column (length cs)) (pos 0 -ℤ shift t column (length cs + 1 + l)) (ap (λ z. row.poly.rest *ℤ z) (shift_free t column (length cs) c.apart o.met.placed.marked.sized.apart) ∙ times_zero row.poly.rest)
        (moved_row cs (with_goal rows p) t column l row ordered canonical among (sym o.met.placed.marked.sized.many ∙ kinds-length (with_goal rows p)) o.met.placed.marked.sized.tableau c.within (slice_before rows p l row here)))

ray_both : (cs : List (List Col)) (rows : List Row) (at : List Fraction) (c : IsRayPoint cs rows at) → (length at ≡ length c.point) × ((j : ℕ) → j < length c.point → Stands (get_or at j (whole (pos 0))) (shift c.tableau (length cs) j +ℤ ray_shift c.tableau c.column c.up j) (whole_of c.tableau))
ray_both cs rows at c =
    sum_each c.point c.ray at (shift c.tableau (length cs)) (ray_shift c.tableau c.column c.up) (whole_of c.tableau) (c.corner.each ∙ sym c.along.each) c.sum
    (λ j h. corner_each cs rows c.objective c.enters c.tableau c.point j c.opened.met c.corner (subst (λ (n : ℕ). j < n) c.corner.each h))
    (λ j h. slope_stands (frame_over cs rows c.objective) c.tableau c.column c.up j (get_or c.ray j (whole (pos 0))) c.opened.met.placed.marked.sized.tableau (growing cs rows c.objective c.enters c.tableau c.column c.up c.opened).free (c.along.same j (subst (λ (n : ℕ). j < n) c.along.each h)))

-- each number of the corner and the ray together does too
pub ray_stands : (cs : List (List Col)) (rows : List Row) (at : List Fraction) (c : IsRayPoint cs rows at) (m : List Col) → Stands (ratio_at cs at m) (numbered cs (λ j. shift c.tableau (length cs) j +ℤ ray_shift c.tableau c.column c.up j) m) (whole_of c.tableau)
ray_stands cs rows at c m = stands_all (ray_both cs rows at c)
  where
    stands_all : (length at ≡ length c.point) × ((j : ℕ) → j < length c.point → Stands (get_or at j (whole (pos 0))) (shift c.tableau (length cs) j +ℤ ray_shift c.tableau c.column c.up j) (whole_of c.tableau)) → Stands (ratio_at cs at m) (numbered cs (λ j. shift c.tableau (length cs) j +ℤ ray_shift c.tableau c.column c.up j) m) (whole_of c.tableau)
    stands_all both = stands_each cs at (λ j. shift c.tableau (length cs) j +ℤ ray_shift c.tableau c.column c.up j) (whole_of c.tableau) m (both.0 ∙ c.corner.each) (λ j h. both.1 j (subst (λ (n : ℕ). j < n) (sym c.corner.each) h))

ray_is_true : (cs : List (List Col)) (rows : List Row) (at : List Fraction) → IsOrdered cs → AllByRecursion (λ (r : Row). IsCanonical r.poly.terms) rows → AllByRecursion (λ (r : Row). AreAmong (keys_of r.poly.terms) cs) rows → IsRayPoint cs rows at → IsTrueAt cs rows at
ray_is_true cs rows at ordered canonical among c = record {
  each = (ray_both cs rows at c).0 ∙ c.corner.each;
  number = numbered cs (λ j. shift c.tableau (length cs) j +ℤ ray_shift c.tableau c.column c.up j);
  over = whole_of c.tableau;
  positive = above cs rows c.objective (kinds_of (with_goal rows c.objective)) c.enters c.tableau c.opened.met;
  stands = ray_stands cs rows at c;
  within = λ l row here. within l row here;
}
  where
    within : (l : ℕ) (row : Row) → slice_get rows l ≡ Some row → IsWithin row.kind (terms_at (numbered cs (λ j. shift c.tableau (length cs) j +ℤ ray_shift c.tableau c.column c.up j)) row.poly.terms +ℤ row.poly.rest *ℤ whole_of c.tableau)
    within l row here =
        let canonical_row : IsCanonical row.poly.terms = all_at (λ (r : Row). IsCanonical r.poly.terms) rows l row canonical here in
        let among_row : AreAmong (keys_of row.poly.terms) cs = all_at (λ (r : Row). AreAmong (keys_of r.poly.terms) cs) rows l row among here in
        subst (λ z. IsWithin row.kind z)
        (sym (ap (λ z. z +ℤ row.poly.rest *ℤ whole_of c.tableau) (terms_at-plus cs (shift c.tableau (length cs)) (ray_shift c.tableau c.column c.up) row.poly.terms) ∙ turn (terms_at (numbered cs (shift c.tableau (length cs))) row.poly.terms) (terms_at (numbered cs (ray_shift c.tableau c.column c.up)) row.poly.terms) (row.poly.rest *ℤ whole_of c.tableau)))
        (both_within row.kind (terms_at (numbered cs (shift c.tableau (length cs))) row.poly.terms +ℤ row.poly.rest *ℤ whole_of c.tableau) (terms_at (numbered cs (ray_shift c.tableau c.column c.up)) row.poly.terms)
        (corner_true cs rows c.objective c.enters c.tableau l row ordered c.opened.met canonical_row among_row here)
        (ray_row cs rows c.objective c.enters c.tableau c.column c.up l row ordered c.opened canonical_row among_row here))
      where
        turn : (a b k : ℤ) → a +ℤ b +ℤ k ≡ a +ℤ k +ℤ b
        turn a b k = omega (arith, ints)

pub point_is_true : (cs : List (List Col)) (rows : List Row) (at : List Fraction) → IsOrdered cs → AllByRecursion (λ (r : Row). IsCanonical r.poly.terms) rows → AllByRecursion (λ (r : Row). AreAmong (keys_of r.poly.terms) cs) rows → IsPointOf cs rows at → IsTrueAt cs rows at
point_is_true cs rows at ordered canonical among is = ⊎_elim (λ (c : IsCornerPoint cs rows at). corner_is_true cs rows at ordered canonical among c) (λ (c : IsRayPoint cs rows at). ray_is_true cs rows at ordered canonical among c) is

-- ---- what a supremum comes to

-- the corner that reaches a bound
pub bound_point : (cs : List (List Col)) (rows : List Row) (p : Polynomial) (budget : ℕ) (cert : Cert) (point : List Fraction) → IsSupremumOver cs rows p budget (supremum.Bound cert point) → IsPointOf cs rows point
bound_point cs rows p budget cert point s = inl (record { objective = p; tableau = s.0; enters = s.1.0; met = s.1.1.0.met; corner = s.1.1.2 })

-- a corner, or a corner and the ray along which the objective grows
pub ray_point : (cs : List (List Col)) (rows : List Row) (p : Polynomial) (budget : ℕ) (point ray at : List Fraction) → IsSupremumOver cs rows p budget (supremum.Unbounded point ray) → (at ≡ point) ⊎ (sums_of point ray ≡ Ok at) → IsPointOf cs rows at
ray_point cs rows p budget point ray at s is = ⊎_elim
    (λ (same : at ≡ point). inl (record { objective = p; tableau = s.0; enters = s.1.0; met = s.1.1.1.1.0.met; corner = subst (λ (xs : List Fraction). IsCornerOf s.0 (length cs) (length cs) xs) (sym same) s.1.1.1.1.1 }))
    (λ (sum : sums_of point ray ≡ Ok at). inr (record {
      objective = p;
      tableau = s.0;
      enters = s.1.0;
      column = s.1.1.0;
      up = s.1.1.1.0;
      opened = s.1.1.1.1.0;
      point = point;
      ray = ray;
      corner = s.1.1.1.1.1;
      along = s.1.1.1.1.2;
      sum = sum;
    })) is

-- ---- the test of spots

rows_at : (cases : List Change) (l : ℕ) (case : Change) → slice_get cases l ≡ Some case → rows_of cases l ≡ case.rows
rows_at [] l case e = cc
rows_at (c ∷ cases) zero case e = let same : c ≡ case = cc in ap (λ (x : Change). x.rows) same
rows_at (c ∷ cases) (suc l) case e = rows_at cases l case e

pub in_cases : (cases : List Change) (l : ℕ) (case : Change) → slice_get cases l ≡ Some case → l < length cases
in_cases [] l case e = cc
in_cases (c ∷ cases) zero case e = omega arith
in_cases (c ∷ cases) (suc l) case e = let h : l < length cases = in_cases cases l case e in omega (arith, h)

-- the point of a spot makes the rows of its case true
spot_true : (cases : List Change) (lower : List Polynomial) (spot : Spot) → IsCanonicalStratum cases lower → (s : IsSpotAt (stratum_columns cases lower) cases spot) → IsTrueAt (stratum_columns cases lower) s.case.rows spot.at
spot_true cases lower spot k s = point_is_true (stratum_columns cases lower) s.case.rows spot.at (IsOrdered-columns (case_monos cases lower)) (recursion_from_All (λ (r : Row). IsCanonical r.poly.terms) s.case.rows canonical.rows) among.rows s.point
  where
    canonical : IsCanonicalChange s.case
    canonical = at_place IsCanonicalChange cases spot.case s.case (recursion_from_All IsCanonicalChange cases k.cases_too) s.is

    among : IsCaseAmong (stratum_columns cases lower) s.case
    among = at_place (IsCaseAmong (stratum_columns cases lower)) cases spot.case s.case (cases_among cases lower) s.is

-- its denominators are positive
pub spot_positive : (cases : List Change) (lower : List Polynomial) (spot : Spot) → IsCanonicalStratum cases lower → IsSpotAt (stratum_columns cases lower) cases spot → (m : List Col) → pos 0 <ℤ (ratio_at (stratum_columns cases lower) spot.at m).den
spot_positive cases lower spot k s m = ((spot_true cases lower spot k s).stands m).positive

pub spot_honest : (cases : List Change) (lower : List Polynomial) (spot : Spot) (b : Bool) → IsCanonicalStratum cases lower → IsSpotAt (stratum_columns cases lower) cases spot → tested_spot (stratum_columns cases lower) cases spot ≡ Ok b → b ≡ true
spot_honest cases lower spot b k s e = after (nat_lt spot.case (length cases) && length spot.at == length (stratum_columns cases lower)) both e
  where
    cs : List (List Col)
    cs = stratum_columns cases lower

    is : IsTrueAt (stratum_columns cases lower) s.case.rows spot.at
    is = spot_true cases lower spot k s

    both : nat_lt spot.case (length cases) && length spot.at == length (stratum_columns cases lower) ≡ true
    both = joined (nat_lt spot.case (length cases)) (length spot.at == length (stratum_columns cases lower)) (lt-ltb spot.case (length cases) (in_cases cases spot.case s.case s.is)) (eq-eqb (length spot.at) (length (stratum_columns cases lower)) is.each)
      where
        joined : (p q : Bool) → p ≡ true → q ≡ true → p && q ≡ true
        joined p q f g = rw (f, g) refl

    after : (q : Bool) → q ≡ true → and_then (bool_ok q) (meets (spot_value (stratum_columns cases lower) spot) (rows_of cases spot.case)) ≡ Ok b → b ≡ true
    after true f g = true_meets (stratum_columns cases lower) s.case.rows spot.at b is (subst (λ (rows : List Row). meets (ratio_value (ratio_at (stratum_columns cases lower) spot.at)) rows ≡ Ok b) (rows_at cases spot.case s.case s.is) g)
    after false f g = cc

pub all_honest : {A : Type 0} (part : A → Result Bool Step.Wide) (xs : List A) (b : Bool) → AllByRecursion (λ x. (c : Bool) → part x ≡ Ok c → c ≡ true) xs → all_of part xs ≡ Ok b → b ≡ true
all_honest part [] b h e = cc
all_honest part (x ∷ xs) b h e = first (part x) refl e (λ f. all_honest part xs b h.1 f)
  where
    first : (r : Result Bool Step.Wide) → part x ≡ r → and_then r (all_of part xs) ≡ Ok b → (all_of part xs ≡ Ok b → b ≡ true) → b ≡ true
    first (Ok true) f g ih = ih g
    first (Ok false) f g ih = absurd (false≢true (h.0 false f))
    first (Err w) f g ih = cc

-- no part of the test of spots is false
pub spots_honest : (cases : List Change) (lower : List Polynomial) (spots : List Spot) (b : Bool) → IsCanonicalStratum cases lower → AllByRecursion (IsSpotAt (stratum_columns cases lower) cases) spots → all_of (tested_spot (stratum_columns cases lower) cases) spots ≡ Ok b → b ≡ true
spots_honest cases lower spots b k s e = all_honest (tested_spot (stratum_columns cases lower) cases) spots b (each spots s) e
  where
    each : (spots : List Spot) → AllByRecursion (IsSpotAt (stratum_columns cases lower) cases) spots → AllByRecursion (λ (spot : Spot). (c : Bool) → tested_spot (stratum_columns cases lower) cases spot ≡ Ok c → c ≡ true) spots
    each [] h = tt
    each (spot ∷ spots) h = (λ c f. spot_honest cases lower spot c k h.0 f, each spots h.1)
