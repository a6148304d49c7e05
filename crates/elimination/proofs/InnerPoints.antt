-- Numerators of the corner of such a goal make each line negative.
use Rattle.std.proofs.Common.{Ok, ◌≡◌, ℕ, suc, ◌+◌, ◌<◌, ◌≤◌, List, [], ◌∷◌, map, length, refl, sym, ap, subst, ◌∙◌, arith, inl, ℤ, pos, negsuc, ◌+ℤ◌, ◌*ℤ◌, ◌≤ℤ◌, ◌<ℤ◌}
use Rattle.std.specs.Prelude.{◌^◌, unsigned_abs, slice_get, Some}
use Rattle.std.specs.List.{AllByRecursion}
use Rattle.std.proofs.lemmas.Int.{ints}
use Rattle.std.proofs.lemmas.List.Elements.{recursion_from_All}
use Rattle.whole_numbers.proofs.Ring.{ring, one-*ℤ, *ℤ_cancel, *ℤ-positive}
use Rattle.linear_terms.specs.declared.col.Col.{Col}
use Rattle.linear_terms.specs.declared.col.Col.TheVariants.{At}
use Rattle.linear_terms.specs.declared.row.Row.{Row}
use Rattle.linear_terms.specs.Polynomial.{IsCanonical}
use Rattle.linear_terms.specs.Row.{AreCanonical, IsWithin}
use Rattle.farkas_check.specs.Calm.{paired_sum}
use Rattle.farkas_check.specs.Columns.{monos_of}
use Rattle.farkas_check.specs.Points.{ratio_at}
use Rattle.farkas_check.specs.Rational.{terms_at}
use Rattle.farkas_check.specs.Ratios.{Fraction, whole}
use Rattle.farkas_check.specs.Relations.{entry}
use Rattle.farkas_check.specs.Tested.{goal_columns}
use Rattle.farkas_check.proofs.PointValues.{Stands}
use Rattle.farkas_check.proofs.Spreads.{rows_among}
use Rattle.farkas_check.proofs.Walks.{IsOrdered-columns}
use Rattle.simplex.proofs.Denominators.{IsFactor, IsLeastOver, AreNumerators, denominator-least, numerators_of}
use Rattle.simplex.proofs.Exchanges.{factor_positive}
use Rattle.simplex.proofs.Numerators.{all_lowest}
use Rattle.simplex.proofs.SpotPoints.{IsTrueAt, point_is_true}
use Rattle.elimination.specs.Descents.{AreSmallLines, IsBelow, IsDescent, line_row, line_goal, IsLineCorner, AreRatiosBelow, line_poly}
use Rattle.elimination.specs.Equations.{values_to, least_numerators}
use Rattle.elimination.proofs.InnerGoals.{polys-small, four_columns}
use Rattle.elimination.proofs.InnerCorners.{small_corner}
use Rattle.elimination.proofs.InnerRatios.{factors-below, ratios_small, numerators-small}
use Rattle.elimination.proofs.NullVectors.{values-length, value-at, numerators-length, numerator-is, slide}
use Rattle.elimination.proofs.InnerTerms.{line_value, line_rest}
use Rattle.items.proofs.Gives.{on_ok}
use Rattle.simplex.specs.Spots.{common_denominator, numerators_over}

-- ---- its numerators make each line negative

-- what is left over a positive factor has the sign of what it makes
below_zero : (p t over m minus : ℤ) → minus ≡ negsuc 0 → p *ℤ over ≡ t *ℤ m → (t +ℤ pos 1 *ℤ over) ≤ℤ pos 0 → pos 0 <ℤ over → pos 0 <ℤ m → p ≤ℤ negsuc 0
below_zero p t over m minus one e h k l =
    back p (subst (λ u. pos 0 <ℤ (u *ℤ p)) one (factor_positive over (minus *ℤ p) k
    (subst (λ z. pos 0 <ℤ z) (sym (first over minus p ∙ ap (λ z. minus *ℤ z) e ∙ second minus t m)) (*ℤ-positive (minus *ℤ t) m (subst (λ u. pos 0 <ℤ (u *ℤ t)) (sym one) (turned t over h k)) l))))
  where
    first : (o u p : ℤ) → o *ℤ (u *ℤ p) ≡ u *ℤ (p *ℤ o)
    first o u p = simp ring (omega (arith, ints))

    second : (u t m : ℤ) → u *ℤ (t *ℤ m) ≡ u *ℤ t *ℤ m
    second u t m = simp ring (omega (arith, ints))

    turned : (t o : ℤ) → (t +ℤ pos 1 *ℤ o) ≤ℤ pos 0 → pos 0 <ℤ o → pos 0 <ℤ (negsuc 0 *ℤ t)
    turned t o h k = omega (arith, ints, h, k)

    back : (p : ℤ) → pos 0 <ℤ (negsuc 0 *ℤ p) → p ≤ℤ negsuc 0
    back p h = omega (arith, ints, h)

each_below : (count : ℕ) (x : List Col → ℤ) (over m : ℤ) (numbers : List ℤ) (lines : List (List ℤ)) → pos 0 <ℤ over → pos 0 <ℤ m → length numbers ≡ count → ((j : ℕ) → j < count → entry numbers j *ℤ over ≡ x (At j ∷ []) *ℤ m) → AllByRecursion (λ line. length line ≡ count) lines
    → ((l : ℕ) (row : Row) → slice_get (map line_row lines) l ≡ Some row → IsWithin row.kind (terms_at x row.poly.terms +ℤ row.poly.rest *ℤ over)) → AllByRecursion (IsBelow numbers) lines
each_below count x over m numbers [] p q same h each within = tt
each_below count x over m numbers (line ∷ lines) p q same h each within = (
  below_zero (paired_sum line numbers) (terms_at x (line_poly line).terms) over m (negsuc 0) refl (line_value x over m 0 line numbers (same ∙ sym each.0) (λ j g. h j (subst (λ (n : ℕ). j < n) each.0 g) ∙ ap (λ (i : ℕ). x (At i ∷ []) *ℤ m) (let e : j ≡ 0 + j = omega arith in e))) (with_rest (terms_at x (line_poly line).terms) (line_poly line).rest over (line_rest 0 line) (within 0 (line_row line) refl)) p q,
  each_below count x over m numbers lines p q same h each.1 (λ l row here. within (suc l) row here),
)
  where
    with_rest : (t r o : ℤ) → r ≡ pos 1 → (t +ℤ r *ℤ o) ≤ℤ pos 0 → (t +ℤ pos 1 *ℤ o) ≤ℤ pos 0
    with_rest t r o e h = subst (λ z. (t +ℤ z *ℤ o) ≤ℤ pos 0) e h

-- the corner's numbers
pub line_corner : (count : ℕ) (lines : List (List ℤ)) (point : List Fraction) → AreSmallLines count lines → IsLineCorner lines point → AreRatiosBelow (20 ^ 5) point
line_corner count lines point s c = small_corner (goal_columns (line_goal lines)) (map line_row lines) (four_columns count lines s) (polys-small lines [] s.small tt) point c

-- what the numerators of small ratios are
record AreDenominated (rs : List Fraction) (numbers : List ℤ) : Type 0 where
  common : ℤ
  positive : pos 0 <ℤ common
  are : AreNumerators common rs numbers
  small : AllByRecursion (λ z. unsigned_abs z ≤ 20 ^ 5) numbers

denominated : (rs : List Fraction) (numbers : List ℤ) → AreRatiosBelow (20 ^ 5) rs → least_numerators rs ≡ Ok numbers → AreDenominated rs numbers
denominated rs numbers b e = on_ok (common_denominator rs) (λ common. numerators_over common rs) numbers e (λ common f g. made common f g)
  where
    made : (common : ℤ) → common_denominator rs ≡ Ok common → numerators_over common rs ≡ Ok numbers → AreDenominated rs numbers
    made common f g = record {
      common = common;
      positive = o.positive;
      are = numerators;
      small = numerators-small (20 ^ 5) b.over common factor.times rs numbers (factor_positive common factor.times o.positive (subst (λ z. pos 0 <ℤ z) (sym factor.is) b.positive)) factor.is b.each numerators;
    }
      where
        o : IsLeastOver (pos 1) rs common
        o = denominator-least (pos 1) rs common (omega (arith, ints)) (all_lowest (20 ^ 5) b.over rs b.each) f

        factor : IsFactor common b.over
        factor = o.least b.over b.positive (record { times = b.over; is = one-*ℤ b.over }) (factors-below (20 ^ 5) b.over rs b.positive b.each)

        numerators : AreNumerators common rs numbers
        numerators = numerators_of rs common numbers (all_lowest (20 ^ 5) b.over rs b.each) f g

module _ (count : ℕ) (lines : List (List ℤ)) (point : List Fraction) (numbers : List ℤ) (s : AreSmallLines count lines) (canonical : AreCanonical (map line_row lines)) (c : IsLineCorner lines point) (made : least_numerators (values_to (goal_columns (line_goal lines)) point count) ≡ Ok numbers) where
  abbrev cs : List (List Col)
  cs = goal_columns (line_goal lines)

  abbrev rows : List Row
  rows = map line_row lines

  d : AreDenominated (values_to cs point count) numbers
  d = denominated (values_to cs point count) numbers (ratios_small cs point count (line_corner count lines point s c)) made

  many : length numbers ≡ count
  many = numerators-length d.common (values_to cs point count) numbers d.are ∙ values-length cs point count

  t : IsTrueAt cs rows point
  t = point_is_true cs rows point (IsOrdered-columns (monos_of rows [])) (recursion_from_All (λ (r : Row). IsCanonical r.poly.terms) rows canonical) (rows_among rows []) (inl c)

  at_ratio : (j : ℕ) (r : Fraction) → entry numbers j *ℤ r.den ≡ r.num *ℤ d.common → Stands r (t.number (At j ∷ [])) t.over → entry numbers j *ℤ t.over ≡ t.number (At j ∷ []) *ℤ d.common
  at_ratio j r e k = *ℤ_cancel (entry numbers j *ℤ t.over) (t.number (At j ∷ []) *ℤ d.common) r.den k.positive (slide (entry numbers j) t.over r.den ∙ ap (λ z. z *ℤ t.over) e ∙ slide r.num d.common t.over ∙ ap (λ z. z *ℤ d.common) k.same ∙ slide (t.number (At j ∷ [])) r.den d.common)

  same : (j : ℕ) → j < count → entry numbers j *ℤ t.over ≡ t.number (At j ∷ []) *ℤ d.common
  same j h = at_ratio j (ratio_at cs point (At j ∷ [])) (subst (λ (r : Fraction). entry numbers j *ℤ r.den ≡ r.num *ℤ d.common) (value-at cs point count j (whole (pos 0)) h) (numerator-is d.common (values_to cs point count) numbers j d.are (subst (λ (n : ℕ). j < n) (sym (values-length cs point count)) h))) (t.stands (At j ∷ []))

  pub descent_of : IsDescent count lines numbers
  descent_of = record { each = many; small = d.small; below = each_below count t.number t.over d.common numbers lines t.positive d.positive many same s.each t.within }
