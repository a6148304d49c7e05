-- Where a raise of a relation's difference ends: the difference is not 0 at the corner of a bound
-- that is not 0, nor at a corner or beyond it where it grows without end.
use Rattle.std.proofs.Common.{◌≡◌, ◌≢◌, ◌⊎◌, ℕ, ◌+◌, ◌<◌, Bool, List, [], length, get_or, Ok, sym, ap, subst, ◌∙◌, arith, ⊎_elim, inl, inr, ℤ, pos, ◌+ℤ◌, ◌*ℤ◌, ◌<ℤ◌}
use Rattle.std.specs.List.{AllByRecursion}
use Rattle.std.specs.Map.{keys_of}
use Rattle.std.proofs.lemmas.Int.{ints}
use Rattle.std.proofs.lemmas.List.Elements.{recursion_from_All}
use Rattle.std.proofs.Math.IntN.{zero-*ℤ}
use Rattle.whole_numbers.proofs.Ring.{*ℤ_assoc}
use Rattle.linear_terms.specs.declared.col.Col.{Col}
use Rattle.linear_terms.specs.declared.row.Kind.TheVariants.{AtMost}
use Rattle.linear_terms.specs.declared.row.Row.{Row}
use Rattle.linear_terms.specs.Polynomial.{Polynomial, IsCanonical}
use Rattle.farkas_check.specs.Kept.{IsCanonicalChange}
use Rattle.farkas_check.specs.Points.{ratio_at}
use Rattle.farkas_check.specs.Rational.{terms_at}
use Rattle.farkas_check.specs.Ratios.{Fraction}
use Rattle.farkas_check.specs.Relations.{case_monos, stratum_columns, sides}
use Rattle.farkas_check.specs.declared.answer.Cert.{Cert}
use Rattle.farkas_check.specs.declared.stratum.Change.{Change}
use Rattle.farkas_check.proofs.Differences.{AreSidesOver}
use Rattle.farkas_check.proofs.PointValues.{Stands, ratio_value-stands}
use Rattle.farkas_check.proofs.Spreads.{AreAmong}
use Rattle.farkas_check.proofs.Vanishing.{IsCaseAmong, cases_among, lower_among, sides_over}
use Rattle.farkas_check.proofs.Walks.{IsOrdered, IsOrdered-columns}
use Rattle.simplex.specs.Differences.{IsDifferenceOf}
use Rattle.simplex.specs.Exchange.{numbers_of, choices_of}
use Rattle.simplex.specs.Points.{IsCornerPoint, IsRayPoint}
use Rattle.simplex.specs.Raise.{sign_of}
use Rattle.simplex.specs.Rows.{kinds_of}
use Rattle.simplex.specs.Search.{IsMet}
use Rattle.simplex.specs.Spots.{IsApart, sums_of}
use Rattle.simplex.specs.Strata.{IsAsked, IsCaseOf, IsFurther}
use Rattle.simplex.specs.Suprema.{with_goal, frame_over, IsOpened, IsSupremumOver}
use Rattle.simplex.specs.declared.differences.StrataQuestion.{StrataQuestion}
use Rattle.simplex.specs.declared.supremum.Supremum.TheVariants as supremum
use Rattle.simplex.specs.declared.tableau.Tableau.{Tableau}
use Rattle.simplex.proofs.Apart.{difference-among, apart_at}
use Rattle.simplex.proofs.BoundCertificates.{certificate-is}
use Rattle.simplex.proofs.Cases.{at_place}
use Rattle.simplex.proofs.Corners.{share}
use Rattle.simplex.proofs.Exchanges.{times_zero, zero_factor, product}
use Rattle.simplex.proofs.RowTableaux.{kinds-length}
use Rattle.simplex.proofs.Moves.{shift, shift_own, shift_free, moved_row, goal_slope}
use Rattle.simplex.proofs.Objectives.{more_rows}
use Rattle.simplex.proofs.Rays.{ray_shift, terms_at-times, column_free}
use Rattle.simplex.proofs.GoalCorners.{slice_goal, whole_of}
use Rattle.simplex.proofs.SpotPoints.{above as above_zero, corner_stands, ray_stands, terms_at-plus}
use Rattle.simplex.proofs.RowCorners.{numbered, share-positive}

-- ---- what is known of a case

pub record IsGiven (cs : List (List Col)) (rows : List Row) (terms lower : List Polynomial) : Type 0 where
  pub ordered : IsOrdered cs
  pub canonical : AllByRecursion (λ (r : Row). IsCanonical r.poly.terms) rows
  pub among : AllByRecursion (λ (r : Row). AreAmong (keys_of r.poly.terms) cs) rows
  pub over : AreSidesOver cs (sides terms lower)

pub case_given : (s : StrataQuestion) (case : Change) → IsAsked s → IsCaseOf s case → IsGiven s.columns.now case.rows case.terms s.lower.now
case_given s case is of = subst (λ (cs : List (List Col)). IsGiven cs case.rows case.terms s.lower.now) (sym is.columns) (record {
  ordered = IsOrdered-columns (case_monos s.cases.now s.lower.now);
  canonical = recursion_from_All (λ (r : Row). IsCanonical r.poly.terms) case.rows canonical.rows;
  among = among.rows;
  over = sides_over (stratum_columns s.cases.now s.lower.now) case.terms s.lower.now (recursion_from_All (λ (q : Polynomial). IsCanonical q.terms) case.terms canonical.terms) (recursion_from_All (λ (q : Polynomial). IsCanonical q.terms) s.lower.now is.canonical.lower_too) among.terms (lower_among s.cases.now s.lower.now);
})
  where
    canonical : IsCanonicalChange case
    canonical = at_place IsCanonicalChange s.cases.now of.place case (recursion_from_All IsCanonicalChange s.cases.now is.canonical.cases_too) of.is

    among : IsCaseAmong (stratum_columns s.cases.now s.lower.now) case
    among = at_place (IsCaseAmong (stratum_columns s.cases.now s.lower.now)) s.cases.now of.place case (cases_among s.cases.now s.lower.now) of.is

-- ---- the objective at a corner and along a ray

lines_many : (cs : List (List Col)) (rows : List Row) (p : Polynomial) (enters : List Bool) (t : Tableau) → IsMet (frame_over cs rows p) (length cs) (kinds_of (with_goal rows p)) enters t → length t.lines ≡ length rows + 1
lines_many cs rows p enters t k = sym k.placed.marked.sized.many ∙ kinds-length (with_goal rows p) ∙ more_rows rows p

share_above : (cs : List (List Col)) (rows : List Row) (p : Polynomial) (enters : List Bool) (t : Tableau) → IsMet (frame_over cs rows p) (length cs) (kinds_of (with_goal rows p)) enters t → pos 0 <ℤ share (length t.lines) (λ i. numbers_of t i (choices_of t i)) (length rows)
share_above cs rows p enters t k = share-positive (length t.lines) (λ i. numbers_of t i (choices_of t i)) (length rows) (λ i h. k.placed.marked.sized.tableau.is.own i h)

corner_value : (cs : List (List Col)) (rows : List Row) (p : Polynomial) (enters : List Bool) (t : Tableau) → IsOrdered cs → IsMet (frame_over cs rows p) (length cs) (kinds_of (with_goal rows p)) enters t → IsCanonical p.terms → AreAmong (keys_of p.terms) cs
    → terms_at (numbered cs (shift t (length cs))) p.terms +ℤ p.rest *ℤ whole_of t ≡ numbers_of t (length rows) (length cs) *ℤ share (length t.lines) (λ i. numbers_of t i (choices_of t i)) (length rows)
corner_value cs rows p enters t ordered k canonical among =
    ap (λ z. terms_at (numbered cs (shift t (length cs))) p.terms +ℤ p.rest *ℤ z) (sym (shift_own t (length cs) k.placed.marked.sized.apart))
    ∙ moved_row cs (with_goal rows p) t (length cs) (length rows) (record { poly = p; kind = AtMost }) ordered canonical among (sym k.placed.marked.sized.many ∙ kinds-length (with_goal rows p)) k.placed.marked.sized.tableau (omega arith) (slice_goal rows p)
    ∙ goal_slope (frame_over cs rows p) (length cs) (kinds_of (with_goal rows p)) enters t (length cs) k (let e : length t.lines ≡ length rows + 1 = lines_many cs rows p enters t k in omega (arith, e)) (λ same. absurd (omega (arith, same)))

ray_value : (cs : List (List Col)) (rows : List Row) (p : Polynomial) (enters : List Bool) (t : Tableau) (column : ℕ) (up : Bool) → IsOrdered cs → IsOpened (frame_over cs rows p) (length cs) (kinds_of (with_goal rows p)) enters column up t → IsCanonical p.terms → AreAmong (keys_of p.terms) cs
    → terms_at (numbered cs (ray_shift t column up)) p.terms ≡ sign_of up *ℤ numbers_of t (length rows) column *ℤ share (length t.lines) (λ i. numbers_of t i (choices_of t i)) (length rows)
ray_value cs rows p enters t column up ordered o canonical among =
    terms_at-times (sign_of up) cs (shift t column) p.terms
    ∙ ap (λ z. sign_of up *ℤ z)
    (no_constant (terms_at (numbered cs (shift t column)) p.terms) p.rest (shift t column (length cs)) (shift_free t column (length cs) apart o.met.placed.marked.sized.apart)
    ∙ moved_row cs (with_goal rows p) t column (length rows) (record { poly = p; kind = AtMost }) ordered canonical among (sym o.met.placed.marked.sized.many ∙ kinds-length (with_goal rows p)) o.met.placed.marked.sized.tableau within (slice_goal rows p)
    ∙ goal_slope (frame_over cs rows p) (length cs) (kinds_of (with_goal rows p)) enters t column o.met (omega (arith, many)) goal_apart)
    ∙ sym (*ℤ_assoc (sign_of up) (numbers_of t (length rows) column) (share (length t.lines) (λ i. numbers_of t i (choices_of t i)) (length rows)))
  where
    many : length t.lines ≡ length rows + 1
    many = lines_many cs rows p enters t o.met

    free : (k : ℕ) → k < length t.lines → choices_of t k ≢ column
    free = column_free (frame_over cs rows p) (length cs) (kinds_of (with_goal rows p)) enters column up t o (omega (arith, many))

    no_constant : (x r z : ℤ) → z ≡ pos 0 → x ≡ x +ℤ r *ℤ z
    no_constant x r z e = plain x (r *ℤ z) (ap (λ y. r *ℤ y) e ∙ times_zero r)
      where
        plain : (x w : ℤ) → w ≡ pos 0 → x ≡ x +ℤ w
        plain x w f = omega (arith, ints, f)

    apart : column ≢ length cs
    apart = ⊎_elim (λ (h : column < length cs). (λ e. absurd (omega (arith, h, e)))) (λ way. (λ e. absurd (let f : column ≡ length cs + 1 + (o.met.placed.marked.entering column way.0).row = (o.met.placed.marked.entering column way.0).is in omega (arith, f, e)))) o.way

    within : column < length cs + 1 + length t.lines
    within = ⊎_elim (λ (h : column < length cs). (let g : column < length cs + 1 + length t.lines = omega (arith, h) in g))
        (λ way. (let f : column ≡ length cs + 1 + (o.met.placed.marked.entering column way.0).row = (o.met.placed.marked.entering column way.0).is in let h : (o.met.placed.marked.entering column way.0).row < length t.lines = (o.met.placed.marked.entering column way.0).here in omega (arith, f, h))) o.way

    goal_apart : column ≢ length cs + 1 + length rows
    goal_apart e = free (length rows) (omega (arith, many)) (o.met.placed.marked.waiting (length rows) (omega (arith, many)) (o.met.placed.marked.sized.goals (length rows) (omega arith) (omega (arith, many))) (o.met.placed.out (length rows) (omega arith) (omega (arith, many))) ∙ sym e)

-- ---- points at which the difference is not 0

pub bound_apart : (cs : List (List Col)) (rows : List Row) (terms lower : List Polynomial) (numbers : List ℤ) (up : Bool) (p : Polynomial) (budget : ℕ) (cert : Cert) (at : List Fraction) → IsGiven cs rows terms lower → IsDifferenceOf terms lower numbers up p → IsSupremumOver cs rows p budget (supremum.Bound cert at) → cert.sum ≢ pos 0
    → IsApart cs terms lower (length numbers) numbers at
bound_apart cs rows terms lower numbers up p budget cert at g d s some =
    apart_at cs terms lower numbers up p at (record { numerator = numbered cs (shift t (length cs)); over = whole_of t; positive = above_zero cs rows p (kinds_of (with_goal rows p)) s.1.0 t s.1.1.0.met }) g.ordered g.over d (corner_stands cs rows at corner)
    (λ e. some (zero_factor cert.sum (share (length t.lines) (λ i. numbers_of t i (choices_of t i)) (length rows)) (ap (λ z. z *ℤ share (length t.lines) (λ i. numbers_of t i (choices_of t i)) (length rows)) sum_is ∙ sym value ∙ e) (λ z. above (share (length t.lines) (λ i. numbers_of t i (choices_of t i)) (length rows)) (share_above cs rows p s.1.0 t s.1.1.0.met) z)))
  where
    t : Tableau
    t = s.0

    corner : IsCornerPoint cs rows at
    corner = record { objective = p; tableau = s.0; enters = s.1.0; met = s.1.1.0.met; corner = s.1.1.2 }

    sum_is : cert.sum ≡ numbers_of s.0 (length rows) (length cs)
    sum_is = (certificate-is (length cs) (length rows) (get_or s.0.lines (length rows) []) cert s.1.1.1).sum

    value : terms_at (numbered cs (shift s.0 (length cs))) p.terms +ℤ p.rest *ℤ whole_of s.0 ≡ numbers_of s.0 (length rows) (length cs) *ℤ share (length s.0.lines) (λ i. numbers_of s.0 i (choices_of s.0 i)) (length rows)
    value = corner_value cs rows p s.1.0 s.0 g.ordered s.1.1.0.met d.canonical (difference-among cs terms lower numbers up p g.over d)

    above : (z : ℤ) → pos 0 <ℤ z → z ≡ pos 0 → ⊥
    above z h e = omega (arith, ints, h, e)

pub ray_apart : (cs : List (List Col)) (rows : List Row) (terms lower : List Polynomial) (numbers : List ℤ) (up : Bool) (p : Polynomial) (budget : ℕ) (point ray at : List Fraction) → IsGiven cs rows terms lower → IsDifferenceOf terms lower numbers up p → IsSupremumOver cs rows p budget (supremum.Unbounded point ray) → IsFurther cs p point ray at
    → IsApart cs terms lower (length numbers) numbers at
ray_apart cs rows terms lower numbers up p budget point ray at g d s f = ⊎_elim here beyond f.way
  where
    t : Tableau
    t = s.0

    corner : IsCornerPoint cs rows point
    corner = record { objective = p; tableau = s.0; enters = s.1.0; met = s.1.1.1.1.0.met; corner = s.1.1.1.1.1 }

    over_above : pos 0 <ℤ whole_of s.0
    over_above = above_zero cs rows p (kinds_of (with_goal rows p)) s.1.0 s.0 s.1.1.1.1.0.met

    -- the value at the corner is what the ratio stands for
    value_stands : Stands f.value (terms_at (numbered cs (shift s.0 (length cs))) p.terms +ℤ p.rest *ℤ whole_of s.0) (whole_of s.0)
    value_stands = ratio_value-stands (ratio_at cs point) (numbered cs (shift s.0 (length cs))) (whole_of s.0) p f.value (corner_stands cs rows point corner) f.is

    above : (z : ℤ) → pos 0 <ℤ z → z ≡ pos 0 → ⊥
    above z h e = omega (arith, ints, h, e)

    here : (at ≡ point) × (f.value.num ≡ pos 0 → ⊥) → IsApart cs terms lower (length numbers) numbers at
    here w = subst (λ (xs : List Fraction). IsApart cs terms lower (length numbers) numbers xs) (sym w.0)
        (apart_at cs terms lower numbers up p point (record { numerator = numbered cs (shift s.0 (length cs)); over = whole_of s.0; positive = over_above }) g.ordered g.over d (corner_stands cs rows point corner)
        (λ e. w.1 (zero_factor f.value.num (whole_of s.0) (value_stands.same ∙ ap (λ z. z *ℤ f.value.den) e ∙ zero-*ℤ f.value.den) (λ z. above (whole_of s.0) over_above z))))

    beyond : (sums_of point ray ≡ Ok at) × (f.value.num ≡ pos 0) → IsApart cs terms lower (length numbers) numbers at
    beyond w = apart_at cs terms lower numbers up p at (record { numerator = numbered cs (λ j. shift s.0 (length cs) j +ℤ ray_shift s.0 s.1.1.0 s.1.1.1.0 j); over = whole_of s.0; positive = over_above }) g.ordered g.over d (ray_stands cs rows at further) (λ e. above slope slope_above (level e))
      where
        further : IsRayPoint cs rows at
        further = record { objective = p; tableau = s.0; enters = s.1.0; column = s.1.1.0; up = s.1.1.1.0; opened = s.1.1.1.1.0; point = point; ray = ray; corner = s.1.1.1.1.1; along = s.1.1.1.1.2; sum = w.0 }

        among : AreAmong (keys_of p.terms) cs
        among = difference-among cs terms lower numbers up p g.over d

        slope : ℤ
        slope = terms_at (numbered cs (ray_shift s.0 s.1.1.0 s.1.1.1.0)) p.terms

        slope_above : pos 0 <ℤ terms_at (numbered cs (ray_shift s.0 s.1.1.0 s.1.1.1.0)) p.terms
        slope_above = subst (λ z. pos 0 <ℤ z) (sym (ray_value cs rows p s.1.0 s.0 s.1.1.0 s.1.1.1.0 g.ordered s.1.1.1.1.0 d.canonical among))
            (product (sign_of s.1.1.1.0 *ℤ numbers_of s.0 (length rows) s.1.1.0) (share (length s.0.lines) (λ i. numbers_of s.0 i (choices_of s.0 i)) (length rows)) s.1.1.1.1.0.grows (share_above cs rows p s.1.0 s.0 s.1.1.1.1.0.met))

        nothing : terms_at (numbered cs (shift s.0 (length cs))) p.terms +ℤ p.rest *ℤ whole_of s.0 ≡ pos 0
        nothing = zero_factor (terms_at (numbered cs (shift s.0 (length cs))) p.terms +ℤ p.rest *ℤ whole_of s.0) f.value.den (sym value_stands.same ∙ ap (λ z. z *ℤ whole_of s.0) w.1 ∙ zero-*ℤ (whole_of s.0)) (λ z. above f.value.den value_stands.positive z)

        level : terms_at (numbered cs (λ j. shift s.0 (length cs) j +ℤ ray_shift s.0 s.1.1.0 s.1.1.1.0 j)) p.terms +ℤ p.rest *ℤ whole_of s.0 ≡ pos 0 → terms_at (numbered cs (ray_shift s.0 s.1.1.0 s.1.1.1.0)) p.terms ≡ pos 0
        level e = left (terms_at (numbered cs (shift s.0 (length cs))) p.terms) (terms_at (numbered cs (ray_shift s.0 s.1.1.0 s.1.1.1.0)) p.terms) (p.rest *ℤ whole_of s.0) nothing
            (ap (λ z. z +ℤ p.rest *ℤ whole_of s.0) (sym (terms_at-plus cs (shift s.0 (length cs)) (ray_shift s.0 s.1.1.0 s.1.1.1.0) p.terms)) ∙ e)
          where
            left : (a b c : ℤ) → a +ℤ c ≡ pos 0 → a +ℤ b +ℤ c ≡ pos 0 → b ≡ pos 0
            left a b c k l = omega (arith, ints, k, l)

pub further_way : (cs : List (List Col)) (p : Polynomial) (point ray at : List Fraction) → IsFurther cs p point ray at → (at ≡ point) ⊎ (sums_of point ray ≡ Ok at)
further_way cs p point ray at f = ⊎_elim (λ w. inl w.0) (λ w. inr w.0) f.way
