-- The lines of a space's basis: they stand in reduced echelon form, and span the space.
use Rattle.std.proofs.Common.{◌≡◌, ℕ, zero, suc, ◌<◌, ◌≤◌, List, [], ◌∷◌, length, take, Some, refl, sym, ap, subst, ◌∙◌, arith, ⊎_elim, ℤ, pos, ◌+ℤ◌, ◌*ℤ◌, ◌<ℤ◌}
use Rattle.std.specs.Prelude.{neg_ℤ, slice_get, unsigned_abs}
use Rattle.std.proofs.lemmas.Int.{ints}
use Rattle.std.proofs.lemmas.Bool.{cases_lt}
use Rattle.std.proofs.lemmas.List.{get_or_past, get_or-take, length-take-le}
use Rattle.std.proofs.Math.IntN.{zero-*ℤ}
use Rattle.whole_numbers.specs.Divisors.{gcd_of}
use Rattle.whole_numbers.proofs.Ring.{ring, neg_ℤ-*ℤ}
use Rattle.farkas_check.specs.Ratios.{Fraction, whole, lowest_terms}
use Rattle.farkas_check.proofs.Lowest.{positive-lowest_terms, lowest_terms-num, lowest_terms-den}
use Rattle.simplex.proofs.Exchanges.{times_zero}
use Rattle.elimination.specs.declared.vectors.Vector.{Vector}
use Rattle.elimination.specs.declared.spaces.Space.{Space}
use Rattle.elimination.specs.declared.spaces.Space.TheVariants.{Origin, Line, Plane, Whole}
use Rattle.elimination.specs.Echelon.{number_in, IsSpanned, Zero, Own, Sum, IsEchelon}
use Rattle.elimination.specs.Spaces.{coordinate, vector_dot, IsZero, IsIn, IsOver, IsRowIn, IsSpanOf, HasWidth, IsRatioOf, IsBasisOf}
use Rattle.elimination.proofs.Extensions.{one_some, zero_of_product, cross_self, IsProportional, proportional}
use Rattle.elimination.proofs.Magnitudes.{past_third, one_positive, positive_each}
use Rattle.elimination.proofs.RowSpans.{row_in, zeros}

-- ---- three ratios, cut to a width

-- a number of a cut line is one of the line, or 0 past the width
number-cut : {P : Type 0} (width : ℕ) (a b c : Fraction) (j : ℕ) → width ≤ 3 → (number_in (take width (a ∷ b ∷ c ∷ [])) j ≡ number_in (a ∷ b ∷ c ∷ []) j → P) → (width ≤ j → number_in (take width (a ∷ b ∷ c ∷ [])) j ≡ whole (pos 0) → P) → P
number-cut width a b c j few within past =
    ⊎_elim (λ (h : j < width). within (get_or-take width (a ∷ b ∷ c ∷ []) j (whole (pos 0)) h))
    (λ (h : width ≤ j). past h (get_or_past (take width (a ∷ b ∷ c ∷ [])) j (whole (pos 0)) (let e : length (take width (a ∷ b ∷ c ∷ [])) ≡ width = length-take-le width (a ∷ b ∷ c ∷ []) few in omega (arith, e, h)))) (cases_lt j width)

over_three : (a b c : Fraction) (v : Vector) (q : ℤ) → IsRatioOf a v.x q → IsRatioOf b v.y q → IsRatioOf c v.z q → (j : ℕ) → coordinate v j *ℤ (number_in (a ∷ b ∷ c ∷ []) j).den ≡ q *ℤ (number_in (a ∷ b ∷ c ∷ []) j).num
over_three a b c v q h k l zero = h.same
over_three a b c v q h k l (suc zero) = k.same
over_three a b c v q h k l (suc (suc zero)) = l.same
over_three a b c v q h k l (suc (suc (suc j))) = subst (λ (r : Fraction). pos 0 *ℤ r.den ≡ q *ℤ r.num) (sym (past_third (a ∷ b ∷ c ∷ []) j (omega arith))) (sym (times_zero q))

-- a line that lies in the space, as a vector over a number
pub record IsLineOf (space : Space) (line : List Fraction) (v : Vector) : Type 0 where
  pub row : IsRowIn space line
  pub q : ℤ
  pub over : IsOver line v q

line_of : (space : Space) (width : ℕ) (a b c : Fraction) (v : Vector) (q : ℤ) → width ≤ 3 → HasWidth width space → IsIn space v → (q ≡ pos 0 → ⊥) → IsRatioOf a v.x q → IsRatioOf b v.y q → IsRatioOf c v.z q
    → IsLineOf space (take width (a ∷ b ∷ c ∷ [])) v
line_of space width a b c v q few wide inside some ha hb hc = record {
  row = row_in space (take width (a ∷ b ∷ c ∷ [])) v q short (record { at = positive }) over inside;
  q = q;
  over = over;
}
  where
    short : length (take width (a ∷ b ∷ c ∷ [])) ≤ 3
    short = let e : length (take width (a ∷ b ∷ c ∷ [])) ≡ width = length-take-le width (a ∷ b ∷ c ∷ []) few in omega (arith, e, few)

    positive : (j : ℕ) → pos 0 <ℤ (number_in (take width (a ∷ b ∷ c ∷ [])) j).den
    positive j =
        number-cut width a b c j few (λ e. subst (λ (r : Fraction). pos 0 <ℤ r.den) (sym e) (positive_each (a ∷ b ∷ c ∷ []) (omega arith) ha.positive hb.positive hc.positive j))
        (λ h e. subst (λ (r : Fraction). pos 0 <ℤ r.den) (sym e) one_positive)

    none : (x : ℤ) → x ≡ pos 0 → x *ℤ pos 1 ≡ q *ℤ pos 0
    none x e = let z : q *ℤ pos 0 ≡ pos 0 = times_zero q in omega (arith, ints, e, z)

    over : IsOver (take width (a ∷ b ∷ c ∷ [])) v q
    over = record {
      apart = some;
      same = λ j. number-cut width a b c j few (λ e. subst (λ (r : Fraction). coordinate v j *ℤ r.den ≡ q *ℤ r.num) (sym e) (over_three a b c v q ha hb hc j))
          (λ h e. subst (λ (r : Fraction). coordinate v j *ℤ r.den ≡ q *ℤ r.num) (sym e) (none (coordinate v j) (wide.zero_past v inside j h)));
    }

-- 1 is q / q, and 0 is 0 / q
unit_ratio : (q : ℤ) → IsRatioOf (whole (pos 1)) q q
unit_ratio q = record { positive = one_positive; same = refl }

zero_ratio : (q : ℤ) → IsRatioOf (whole (pos 0)) (pos 0) q
zero_ratio q = record { positive = one_positive; same = sym (times_zero q) }

none_of : (x q : ℤ) → x ≡ pos 0 → IsRatioOf (whole (pos 0)) x q
none_of x q e = subst (λ (z : ℤ). IsRatioOf (whole (pos 0)) z q) (sym e) (zero_ratio q)

-- a place where a vector of the space is not 0
reaches : (space : Space) (width : ℕ) (v : Vector) (j : ℕ) → HasWidth width space → IsIn space v → (coordinate v j ≡ pos 0 → ⊥) → j < width
reaches space width v j wide inside some = ⊎_elim (λ (h : j < width). h) (λ (h : width ≤ j). absurd (some (wide.zero_past v inside j h))) (cases_lt j width)

-- ---- forms

form_x : (width : ℕ) (a b : Fraction) → 0 < width → width ≤ 3 → IsEchelon (take width (whole (pos 1) ∷ a ∷ b ∷ []) ∷ [])
form_x zero a b h k = absurd (omega (arith, h))
form_x (suc zero) a b h k = (refl, tt, tt)
form_x (suc (suc zero)) a b h k = (refl, tt, tt)
form_x (suc (suc (suc zero))) a b h k = (refl, tt, tt)
form_x (suc (suc (suc (suc width)))) a b h k = absurd (omega (arith, k))

form_y : (width : ℕ) (b : Fraction) → 1 < width → width ≤ 3 → IsEchelon (take width (whole (pos 0) ∷ whole (pos 1) ∷ b ∷ []) ∷ [])
form_y zero b h k = absurd (omega (arith, h))
form_y (suc zero) b h k = absurd (omega (arith, h))
form_y (suc (suc zero)) b h k = (refl, tt, tt)
form_y (suc (suc (suc zero))) b h k = (refl, tt, tt)
form_y (suc (suc (suc (suc width)))) b h k = absurd (omega (arith, k))

form_z : (width : ℕ) → 2 < width → width ≤ 3 → IsEchelon (take width (whole (pos 0) ∷ whole (pos 0) ∷ whole (pos 1) ∷ []) ∷ [])
form_z zero h k = absurd (omega (arith, h))
form_z (suc zero) h k = absurd (omega (arith, h))
form_z (suc (suc zero)) h k = absurd (omega (arith, h))
form_z (suc (suc (suc zero))) h k = (refl, tt, tt)
form_z (suc (suc (suc (suc width)))) h k = absurd (omega (arith, k))

form_xy : (width : ℕ) (a b : Fraction) → 1 < width → width ≤ 3 → IsEchelon (take width (whole (pos 1) ∷ whole (pos 0) ∷ a ∷ []) ∷ take width (whole (pos 0) ∷ whole (pos 1) ∷ b ∷ []) ∷ [])
form_xy zero a b h k = absurd (omega (arith, h))
form_xy (suc zero) a b h k = absurd (omega (arith, h))
form_xy (suc (suc zero)) a b h k = (refl, (record { rising = omega arith; alone = refl }, tt), (refl, tt, tt))
form_xy (suc (suc (suc zero))) a b h k = (refl, (record { rising = omega arith; alone = refl }, tt), (refl, tt, tt))
form_xy (suc (suc (suc (suc width)))) a b h k = absurd (omega (arith, k))

form_xz : (width : ℕ) (a : Fraction) → 2 < width → width ≤ 3 → IsEchelon (take width (whole (pos 1) ∷ a ∷ whole (pos 0) ∷ []) ∷ take width (whole (pos 0) ∷ whole (pos 0) ∷ whole (pos 1) ∷ []) ∷ [])
form_xz zero a h k = absurd (omega (arith, h))
form_xz (suc zero) a h k = absurd (omega (arith, h))
form_xz (suc (suc zero)) a h k = absurd (omega (arith, h))
form_xz (suc (suc (suc zero))) a h k = (refl, (record { rising = omega arith; alone = refl }, tt), (refl, tt, tt))
form_xz (suc (suc (suc (suc width)))) a h k = absurd (omega (arith, k))

form_yz : (width : ℕ) → 2 < width → width ≤ 3 → IsEchelon (take width (whole (pos 0) ∷ whole (pos 1) ∷ whole (pos 0) ∷ []) ∷ take width (whole (pos 0) ∷ whole (pos 0) ∷ whole (pos 1) ∷ []) ∷ [])
form_yz zero h k = absurd (omega (arith, h))
form_yz (suc zero) h k = absurd (omega (arith, h))
form_yz (suc (suc zero)) h k = absurd (omega (arith, h))
form_yz (suc (suc (suc zero))) h k = (refl, (record { rising = omega arith; alone = refl }, tt), (refl, tt, tt))
form_yz (suc (suc (suc (suc width)))) h k = absurd (omega (arith, k))

form_xyz : (width : ℕ) → 2 < width → width ≤ 3
    → IsEchelon (take width (whole (pos 1) ∷ whole (pos 0) ∷ whole (pos 0) ∷ []) ∷ take width (whole (pos 0) ∷ whole (pos 1) ∷ whole (pos 0) ∷ []) ∷ take width (whole (pos 0) ∷ whole (pos 0) ∷ whole (pos 1) ∷ []) ∷ [])
form_xyz zero h k = absurd (omega (arith, h))
form_xyz (suc zero) h k = absurd (omega (arith, h))
form_xyz (suc (suc zero)) h k = absurd (omega (arith, h))
form_xyz (suc (suc (suc zero))) h k =
    (refl, (record { rising = omega arith; alone = refl }, (record { rising = omega arith; alone = refl }, tt)), (refl, (record { rising = omega arith; alone = refl }, tt), (refl, tt, tt)))
form_xyz (suc (suc (suc (suc width)))) h k = absurd (omega (arith, k))

-- ---- lines that span a space

-- the vector of a line is spanned
own : (space : Space) (lines : List (List Fraction)) (place : ℕ) (line : List Fraction) (v : Vector) → slice_get lines place ≡ Some line → IsLineOf space line v → IsSpanned lines (coordinate v)
own space lines place line v here l = Own place line (coordinate v) here (record { times = l.q; same = l.over.same })

-- a multiple of a vector is a sum of multiples of two others
pub record IsPair (u t w : Vector) : Type 0 where
  pub a : ℤ
  pub b : ℤ
  pub times : ℤ
  pub apart : times ≡ pos 0 → ⊥
  pub x : times *ℤ w.x ≡ a *ℤ u.x +ℤ b *ℤ t.x
  pub y : times *ℤ w.y ≡ a *ℤ u.y +ℤ b *ℤ t.y
  pub z : times *ℤ w.z ≡ a *ℤ u.z +ℤ b *ℤ t.z

pair_places : (u t w : Vector) (s : IsPair u t w) (j : ℕ) → s.times *ℤ coordinate w j ≡ s.a *ℤ coordinate u j +ℤ s.b *ℤ coordinate t j
pair_places u t w s zero = s.x
pair_places u t w s (suc zero) = s.y
pair_places u t w s (suc (suc zero)) = s.z
pair_places u t w s (suc (suc (suc j))) = times_zero s.times ∙ rw (times_zero s.a, times_zero s.b) refl

pair_spanned : (lines : List (List Fraction)) (u t w : Vector) → IsPair u t w → IsSpanned lines (coordinate u) → IsSpanned lines (coordinate t) → IsSpanned lines (coordinate w)
pair_spanned lines u t w s f g = Sum (coordinate u) (coordinate t) (coordinate w) s.a s.b s.times f g s.apart (pair_places u t w s)

-- one line
span_of_one : (p : Vector) (line : List Fraction) → (IsZero p → ⊥) → IsLineOf (Line p) line p → IsSpanOf (line ∷ []) (Line p)
span_of_one p line some l = record {
  within = (l.row, tt);
  spanned = λ w h. pair_spanned (line ∷ []) p p w (pair w (proportional p w some h)) (own (Line p) (line ∷ []) 0 line p refl l) (own (Line p) (line ∷ []) 0 line p refl l);
}
  where
    with_none : (x y c : ℤ) → x ≡ y → x ≡ y +ℤ pos 0 *ℤ c
    with_none x y c e = omega (arith, ints, e, zero-*ℤ c)

    pair : (w : Vector) → IsProportional p w → IsPair p p w
    pair w m = record { a = m.r; b = pos 0; times = m.q; apart = m.apart; x = with_none (m.q *ℤ w.x) (m.r *ℤ p.x) p.x m.x; y = with_none (m.q *ℤ w.y) (m.r *ℤ p.y) p.y m.y; z = with_none (m.q *ℤ w.z) (m.r *ℤ p.z) p.z m.z }

-- two lines
span_of_two : (space : Space) (u t : Vector) (line other : List Fraction) → IsLineOf space line u → IsLineOf space other t → ((w : Vector) → IsIn space w → IsPair u t w) → IsSpanOf (line ∷ other ∷ []) space
span_of_two space u t line other l m pair = record {
  within = (l.row, (m.row, tt));
  spanned = λ w h. pair_spanned (line ∷ other ∷ []) u t w (pair w h) (own space (line ∷ other ∷ []) 0 line u refl l) (own space (line ∷ other ∷ []) 1 other t refl m);
}

-- ---- the basis of each space

pub basis_of_origin : (width : ℕ) → IsBasisOf width Origin []
basis_of_origin width = record { equal = tt; echelon = tt; span = record { within = tt; spanned = λ w h. Zero (coordinate w) (zeros w h) } }

-- a vector over its first number that is not 0
pub line_by_x : (p : Vector) (width : ℕ) (one a b : Fraction) → width ≤ 3 → HasWidth width (Line p) → (IsZero p → ⊥) → (p.x ≡ pos 0 → ⊥) → one ≡ whole (pos 1) → IsRatioOf a p.y p.x → IsRatioOf b p.z p.x
    → IsBasisOf width (Line p) (take width (one ∷ a ∷ b ∷ []) ∷ [])
line_by_x p width one a b few wide some apart eo ha hb = rw eo record {
  equal = (length-take-le width (whole (pos 1) ∷ a ∷ b ∷ []) few, tt);
  echelon = form_x width a b (reaches (Line p) width p 0 wide (cross_self p) apart) few;
  span = span_of_one p (take width (whole (pos 1) ∷ a ∷ b ∷ [])) some (line_of (Line p) width (whole (pos 1)) a b p p.x few wide (cross_self p) apart (unit_ratio p.x) ha hb);
}

pub line_by_y : (p : Vector) (width : ℕ) (none one b : Fraction) → width ≤ 3 → HasWidth width (Line p) → (IsZero p → ⊥) → p.x ≡ pos 0 → (p.y ≡ pos 0 → ⊥) → none ≡ whole (pos 0) → one ≡ whole (pos 1) → IsRatioOf b p.z p.y
    → IsBasisOf width (Line p) (take width (none ∷ one ∷ b ∷ []) ∷ [])
line_by_y p width none one b few wide some ex apart en eo hb = rw (en, eo) record {
  equal = (length-take-le width (whole (pos 0) ∷ whole (pos 1) ∷ b ∷ []) few, tt);
  echelon = form_y width b (reaches (Line p) width p 1 wide (cross_self p) apart) few;
  span = span_of_one p (take width (whole (pos 0) ∷ whole (pos 1) ∷ b ∷ [])) some (line_of (Line p) width (whole (pos 0)) (whole (pos 1)) b p p.y few wide (cross_self p) apart (none_of p.x p.y ex) (unit_ratio p.y) hb);
}

pub line_by_z : (p : Vector) (width : ℕ) (none one : Fraction) → width ≤ 3 → HasWidth width (Line p) → (IsZero p → ⊥) → p.x ≡ pos 0 → p.y ≡ pos 0 → none ≡ whole (pos 0) → one ≡ whole (pos 1)
    → IsBasisOf width (Line p) (take width (none ∷ none ∷ one ∷ []) ∷ [])
line_by_z p width none one few wide some ex ey en eo = rw (en, eo) record {
  equal = (length-take-le width (whole (pos 0) ∷ whole (pos 0) ∷ whole (pos 1) ∷ []) few, tt);
  echelon = form_z width (reaches (Line p) width p 2 wide (cross_self p) apart) few;
  span = span_of_one p (take width (whole (pos 0) ∷ whole (pos 0) ∷ whole (pos 1) ∷ [])) some (line_of (Line p) width (whole (pos 0)) (whole (pos 0)) (whole (pos 1)) p p.z few wide (cross_self p) apart (none_of p.x p.z ex) (none_of p.y p.z ey) (unit_ratio p.z));
}
  where
    apart : p.z ≡ pos 0 → ⊥
    apart ez = some (record { x = ex; y = ey; z = ez })

-- what is orthogonal to a vector, by its last number that is not 0
pub plane_by_z : (n : Vector) (width : ℕ) (none one a b : Fraction) → width ≤ 3 → HasWidth width (Plane n) → (n.z ≡ pos 0 → ⊥) → none ≡ whole (pos 0) → one ≡ whole (pos 1) → IsRatioOf a (neg_ℤ n.x) n.z → IsRatioOf b (neg_ℤ n.y) n.z
    → IsBasisOf width (Plane n) (take width (one ∷ none ∷ a ∷ []) ∷ take width (none ∷ one ∷ b ∷ []) ∷ [])
plane_by_z n width none one a b few wide apart en eo ha hb = rw (en, eo) record {
  equal = (length-take-le width (whole (pos 1) ∷ whole (pos 0) ∷ a ∷ []) few, (length-take-le width (whole (pos 0) ∷ whole (pos 1) ∷ b ∷ []) few, tt));
  echelon = form_xy width a b (reaches (Plane n) width t 1 wide in_t apart) few;
  span =
      span_of_two (Plane n) u t (take width (whole (pos 1) ∷ whole (pos 0) ∷ a ∷ [])) (take width (whole (pos 0) ∷ whole (pos 1) ∷ b ∷ []))
      (line_of (Plane n) width (whole (pos 1)) (whole (pos 0)) a u n.z few wide in_u apart (unit_ratio n.z) (zero_ratio n.z) ha)
      (line_of (Plane n) width (whole (pos 0)) (whole (pos 1)) b t n.z few wide in_t apart (zero_ratio n.z) (unit_ratio n.z) hb) pair;
}
  where
    u : Vector
    u = record { x = n.z; y = pos 0; z = neg_ℤ n.x }

    t : Vector
    t = record { x = pos 0; y = n.z; z = neg_ℤ n.y }

    first : (a b c : ℤ) → a *ℤ c +ℤ b *ℤ pos 0 +ℤ c *ℤ neg_ℤ a ≡ pos 0
    first a b c = simp ring (omega (arith, ints, times_zero b))

    second : (a b c : ℤ) → a *ℤ pos 0 +ℤ b *ℤ c +ℤ c *ℤ neg_ℤ b ≡ pos 0
    second a b c = simp ring (omega (arith, ints, times_zero a))

    in_u : vector_dot n u ≡ pos 0
    in_u = first n.x n.y n.z

    in_t : vector_dot n t ≡ pos 0
    in_t = second n.x n.y n.z

    by_x : (c i k : ℤ) → c *ℤ i ≡ i *ℤ c +ℤ k *ℤ pos 0
    by_x c i k = simp ring (omega (arith, ints, times_zero k))

    by_y : (c i k : ℤ) → c *ℤ k ≡ i *ℤ pos 0 +ℤ k *ℤ c
    by_y c i k = simp ring (omega (arith, ints, times_zero i))

    by_z : (a b c i k m : ℤ) → a *ℤ i +ℤ b *ℤ k +ℤ c *ℤ m ≡ pos 0 → c *ℤ m ≡ i *ℤ neg_ℤ a +ℤ k *ℤ neg_ℤ b
    by_z a b c i k m e = rest (a *ℤ i +ℤ b *ℤ k) (c *ℤ m) e ∙ turned
      where
        rest : (x y : ℤ) → x +ℤ y ≡ pos 0 → y ≡ neg_ℤ x
        rest x y e = omega (arith, ints, e)

        turned : neg_ℤ (a *ℤ i +ℤ b *ℤ k) ≡ i *ℤ neg_ℤ a +ℤ k *ℤ neg_ℤ b
        turned = simp ring (omega (arith, ints))

    pair : (w : Vector) → vector_dot n w ≡ pos 0 → IsPair u t w
    pair w h = record { a = w.x; b = w.y; times = n.z; apart = apart; x = by_x n.z w.x w.y; y = by_y n.z w.x w.y; z = by_z n.x n.y n.z w.x w.y w.z h }

-- unit vectors
abbrev unit_x : Vector
unit_x = record { x = pos 1; y = pos 0; z = pos 0 }

abbrev unit_y : Vector
unit_y = record { x = pos 0; y = pos 1; z = pos 0 }

abbrev unit_z : Vector
unit_z = record { x = pos 0; y = pos 0; z = pos 1 }

in_z : (n : Vector) → n.z ≡ pos 0 → vector_dot n unit_z ≡ pos 0
in_z n ez = plain n.x n.y n.z ez
  where
    plain : (a b c : ℤ) → c ≡ pos 0 → a *ℤ pos 0 +ℤ b *ℤ pos 0 +ℤ c *ℤ pos 1 ≡ pos 0
    plain a b c e = rw (e, times_zero a, times_zero b) refl

pub plane_by_y : (n : Vector) (width : ℕ) (none one a : Fraction) → width ≤ 3 → HasWidth width (Plane n) → n.z ≡ pos 0 → (n.y ≡ pos 0 → ⊥) → none ≡ whole (pos 0) → one ≡ whole (pos 1) → IsRatioOf a (neg_ℤ n.x) n.y
    → IsBasisOf width (Plane n) (take width (one ∷ a ∷ none ∷ []) ∷ take width (none ∷ none ∷ one ∷ []) ∷ [])
plane_by_y n width none one a few wide ez apart en eo ha = rw (en, eo) record {
  equal = (length-take-le width (whole (pos 1) ∷ a ∷ whole (pos 0) ∷ []) few, (length-take-le width (whole (pos 0) ∷ whole (pos 0) ∷ whole (pos 1) ∷ []) few, tt));
  echelon = form_xz width a (reaches (Plane n) width unit_z 2 wide (in_z n ez) one_some) few;
  span =
      span_of_two (Plane n) u unit_z (take width (whole (pos 1) ∷ a ∷ whole (pos 0) ∷ [])) (take width (whole (pos 0) ∷ whole (pos 0) ∷ whole (pos 1) ∷ []))
      (line_of (Plane n) width (whole (pos 1)) a (whole (pos 0)) u n.y few wide in_u apart (unit_ratio n.y) ha (zero_ratio n.y))
      (line_of (Plane n) width (whole (pos 0)) (whole (pos 0)) (whole (pos 1)) unit_z (pos 1) few wide (in_z n ez) one_some (zero_ratio (pos 1)) (zero_ratio (pos 1)) (unit_ratio (pos 1))) pair;
}
  where
    u : Vector
    u = record { x = n.y; y = neg_ℤ n.x; z = pos 0 }

    first : (a b c : ℤ) → a *ℤ b +ℤ b *ℤ neg_ℤ a +ℤ c *ℤ pos 0 ≡ pos 0
    first a b c = simp ring (omega (arith, ints, times_zero c))

    in_u : vector_dot n u ≡ pos 0
    in_u = first n.x n.y n.z

    by_x : (b i k : ℤ) → b *ℤ i ≡ i *ℤ b +ℤ k *ℤ pos 0
    by_x b i k = simp ring (omega (arith, ints, times_zero k))

    by_y : (a b c i k m : ℤ) → c ≡ pos 0 → a *ℤ i +ℤ b *ℤ k +ℤ c *ℤ m ≡ pos 0 → b *ℤ k ≡ i *ℤ neg_ℤ a +ℤ b *ℤ m *ℤ pos 0
    by_y a b c i k m ec e = rest (a *ℤ i) (b *ℤ k) (c *ℤ m) (ap (λ z. z *ℤ m) ec ∙ zero-*ℤ m) e ∙ turned
      where
        rest : (x y z : ℤ) → z ≡ pos 0 → x +ℤ y +ℤ z ≡ pos 0 → y ≡ neg_ℤ x
        rest x y z ez e = omega (arith, ints, ez, e)

        same : (x y : ℤ) → x ≡ y → x ≡ y +ℤ pos 0
        same x y e = omega (arith, ints, e)

        inner : neg_ℤ (a *ℤ i) ≡ i *ℤ neg_ℤ a
        inner = simp ring (omega (arith, ints))

        turned : neg_ℤ (a *ℤ i) ≡ i *ℤ neg_ℤ a +ℤ b *ℤ m *ℤ pos 0
        turned = same (neg_ℤ (a *ℤ i)) (i *ℤ neg_ℤ a) inner ∙ ap (λ z. i *ℤ neg_ℤ a +ℤ z) (sym (times_zero (b *ℤ m)))

    by_z : (i k : ℤ) → k ≡ i *ℤ pos 0 +ℤ k *ℤ pos 1
    by_z i k = omega (arith, ints, times_zero i)

    pair : (w : Vector) → vector_dot n w ≡ pos 0 → IsPair u unit_z w
    pair w h = record { a = w.x; b = n.y *ℤ w.z; times = n.y; apart = apart; x = by_x n.y w.x (n.y *ℤ w.z); y = by_y n.x n.y n.z w.x w.y w.z ez h; z = by_z w.x (n.y *ℤ w.z) }

pub plane_by_x : (n : Vector) (width : ℕ) (none one : Fraction) → width ≤ 3 → HasWidth width (Plane n) → (IsZero n → ⊥) → n.z ≡ pos 0 → n.y ≡ pos 0 → none ≡ whole (pos 0) → one ≡ whole (pos 1)
    → IsBasisOf width (Plane n) (take width (none ∷ one ∷ none ∷ []) ∷ take width (none ∷ none ∷ one ∷ []) ∷ [])
plane_by_x n width none one few wide some ez ey en eo = rw (en, eo) record {
  equal = (length-take-le width (whole (pos 0) ∷ whole (pos 1) ∷ whole (pos 0) ∷ []) few, (length-take-le width (whole (pos 0) ∷ whole (pos 0) ∷ whole (pos 1) ∷ []) few, tt));
  echelon = form_yz width (reaches (Plane n) width unit_z 2 wide (in_z n ez) one_some) few;
  span =
      span_of_two (Plane n) unit_y unit_z (take width (whole (pos 0) ∷ whole (pos 1) ∷ whole (pos 0) ∷ [])) (take width (whole (pos 0) ∷ whole (pos 0) ∷ whole (pos 1) ∷ []))
      (line_of (Plane n) width (whole (pos 0)) (whole (pos 1)) (whole (pos 0)) unit_y (pos 1) few wide in_y one_some (zero_ratio (pos 1)) (unit_ratio (pos 1)) (zero_ratio (pos 1)))
      (line_of (Plane n) width (whole (pos 0)) (whole (pos 0)) (whole (pos 1)) unit_z (pos 1) few wide (in_z n ez) one_some (zero_ratio (pos 1)) (zero_ratio (pos 1)) (unit_ratio (pos 1))) pair;
}
  where
    apart : n.x ≡ pos 0 → ⊥
    apart ex = some (record { x = ex; y = ey; z = ez })

    plain : (a b c : ℤ) → b ≡ pos 0 → a *ℤ pos 0 +ℤ b *ℤ pos 1 +ℤ c *ℤ pos 0 ≡ pos 0
    plain a b c e = rw (e, times_zero a, times_zero c) refl

    in_y : vector_dot n unit_y ≡ pos 0
    in_y = plain n.x n.y n.z ey

    first : (a b c i k m : ℤ) → b ≡ pos 0 → c ≡ pos 0 → a *ℤ i +ℤ b *ℤ k +ℤ c *ℤ m ≡ pos 0 → a *ℤ i ≡ pos 0
    first a b c i k m eb ec e = rest (a *ℤ i) (b *ℤ k) (c *ℤ m) (ap (λ z. z *ℤ k) eb ∙ zero-*ℤ k) (ap (λ z. z *ℤ m) ec ∙ zero-*ℤ m) e
      where
        rest : (x y z : ℤ) → y ≡ pos 0 → z ≡ pos 0 → x +ℤ y +ℤ z ≡ pos 0 → x ≡ pos 0
        rest x y z ey ez e = omega (arith, ints, ey, ez, e)

    by_x : (i k m : ℤ) → i ≡ pos 0 → pos 1 *ℤ i ≡ k *ℤ pos 0 +ℤ m *ℤ pos 0
    by_x i k m e = omega (arith, ints, e, times_zero k, times_zero m)

    by_y : (k m : ℤ) → pos 1 *ℤ k ≡ k *ℤ pos 1 +ℤ m *ℤ pos 0
    by_y k m = omega (arith, ints, times_zero m)

    by_z : (k m : ℤ) → pos 1 *ℤ m ≡ k *ℤ pos 0 +ℤ m *ℤ pos 1
    by_z k m = omega (arith, ints, times_zero k)

    pair : (w : Vector) → vector_dot n w ≡ pos 0 → IsPair unit_y unit_z w
    pair w h = record {
      a = w.y;
      b = w.z;
      times = pos 1;
      apart = one_some;
      x = by_x w.x w.y w.z (zero_of_product n.x w.x apart (first n.x n.y n.z w.x w.y w.z ey ez h));
      y = by_y w.y w.z;
      z = by_z w.y w.z;
    }

-- all vectors
pub whole_by_units : (width : ℕ) (none one : Fraction) → width ≤ 3 → HasWidth width Whole → none ≡ whole (pos 0) → one ≡ whole (pos 1)
    → IsBasisOf width Whole (take width (one ∷ none ∷ none ∷ []) ∷ take width (none ∷ one ∷ none ∷ []) ∷ take width (none ∷ none ∷ one ∷ []) ∷ [])
whole_by_units width none one few wide en eo = rw (en, eo) record {
  equal = (length-take-le width (whole (pos 1) ∷ whole (pos 0) ∷ whole (pos 0) ∷ []) few, (length-take-le width (whole (pos 0) ∷ whole (pos 1) ∷ whole (pos 0) ∷ []) few, (length-take-le width (whole (pos 0) ∷ whole (pos 0) ∷ whole (pos 1) ∷ []) few, tt)));
  echelon = form_xyz width (reaches Whole width unit_z 2 wide tt one_some) few;
  span = record { within = (l.row, (m.row, (o.row, tt))); spanned = λ w h. spanned w };
}
  where
    lines : List (List Fraction)
    lines = take width (whole (pos 1) ∷ whole (pos 0) ∷ whole (pos 0) ∷ []) ∷ take width (whole (pos 0) ∷ whole (pos 1) ∷ whole (pos 0) ∷ []) ∷ take width (whole (pos 0) ∷ whole (pos 0) ∷ whole (pos 1) ∷ []) ∷ []

    l : IsLineOf Whole (take width (whole (pos 1) ∷ whole (pos 0) ∷ whole (pos 0) ∷ [])) unit_x
    l = line_of Whole width (whole (pos 1)) (whole (pos 0)) (whole (pos 0)) unit_x (pos 1) few wide tt one_some (unit_ratio (pos 1)) (zero_ratio (pos 1)) (zero_ratio (pos 1))

    m : IsLineOf Whole (take width (whole (pos 0) ∷ whole (pos 1) ∷ whole (pos 0) ∷ [])) unit_y
    m = line_of Whole width (whole (pos 0)) (whole (pos 1)) (whole (pos 0)) unit_y (pos 1) few wide tt one_some (zero_ratio (pos 1)) (unit_ratio (pos 1)) (zero_ratio (pos 1))

    o : IsLineOf Whole (take width (whole (pos 0) ∷ whole (pos 0) ∷ whole (pos 1) ∷ [])) unit_z
    o = line_of Whole width (whole (pos 0)) (whole (pos 0)) (whole (pos 1)) unit_z (pos 1) few wide tt one_some (zero_ratio (pos 1)) (zero_ratio (pos 1)) (unit_ratio (pos 1))

    here : (i k : ℤ) → pos 1 *ℤ i ≡ i *ℤ pos 1 +ℤ k *ℤ pos 0
    here i k = omega (arith, ints, times_zero k)

    there : (i k : ℤ) → pos 1 *ℤ k ≡ i *ℤ pos 0 +ℤ k *ℤ pos 1
    there i k = omega (arith, ints, times_zero i)

    nowhere : (i k : ℤ) → pos 1 *ℤ pos 0 ≡ i *ℤ pos 0 +ℤ k *ℤ pos 0
    nowhere i k = omega (arith, ints, times_zero i, times_zero k)

    kept : (i k : ℤ) → pos 1 *ℤ i ≡ pos 1 *ℤ i +ℤ k *ℤ pos 0
    kept i k = omega (arith, ints, times_zero k)

    last : (k : ℤ) → pos 1 *ℤ k ≡ pos 1 *ℤ pos 0 +ℤ k *ℤ pos 1
    last k = omega (arith, ints)

    flat_pair : (i k : ℤ) → IsPair unit_x unit_y (record { x = i; y = k; z = pos 0 })
    flat_pair i k = record { a = i; b = k; times = pos 1; apart = one_some; x = here i k; y = there i k; z = nowhere i k }

    full_pair : (w : Vector) → IsPair (record { x = w.x; y = w.y; z = pos 0 }) unit_z w
    full_pair w = record { a = pos 1; b = w.z; times = pos 1; apart = one_some; x = kept w.x w.z; y = kept w.y w.z; z = last w.z }

    spanned : (w : Vector) → IsSpanned lines (coordinate w)
    spanned w =
        pair_spanned lines (record { x = w.x; y = w.y; z = pos 0 }) unit_z w (full_pair w)
        (pair_spanned lines unit_x unit_y (record { x = w.x; y = w.y; z = pos 0 }) (flat_pair w.x w.y) (own Whole lines 0 (take width (whole (pos 1) ∷ whole (pos 0) ∷ whole (pos 0) ∷ [])) unit_x refl l) (own Whole lines 1 (take width (whole (pos 0) ∷ whole (pos 1) ∷ whole (pos 0) ∷ [])) unit_y refl m))
        (own Whole lines 2 (take width (whole (pos 0) ∷ whole (pos 0) ∷ whole (pos 1) ∷ [])) unit_z refl o)

-- ---- ratios

ratio_parts : (x y g n d : ℤ) → x *ℤ g ≡ n → y *ℤ g ≡ d → n *ℤ y ≡ d *ℤ x
ratio_parts x y g n d e f = ap (λ z. z *ℤ y) (sym e) ∙ turned ∙ ap (λ z. z *ℤ x) f
  where
    turned : x *ℤ g *ℤ y ≡ y *ℤ g *ℤ x
    turned = simp ring (omega (arith, ints))

pub ratio_of : (r : Fraction) (num den : ℤ) → pos 0 <ℤ den → r ≡ lowest_terms num den → IsRatioOf r num den
ratio_of r num den h e = rw e record {
  positive = positive-lowest_terms num den h;
  same = ratio_parts (lowest_terms num den).num (lowest_terms num den).den (pos (gcd_of (unsigned_abs num) (unsigned_abs den))) num den (lowest_terms-num num den) (lowest_terms-den num den);
}

pub ratio_of_turned : (r : Fraction) (num den : ℤ) → IsRatioOf r (neg_ℤ num) (neg_ℤ den) → IsRatioOf r num den
ratio_of_turned r num den h = record { positive = h.positive; same = turned (num *ℤ r.den) (den *ℤ r.num) (sym (neg_ℤ-*ℤ num r.den) ∙ h.same ∙ neg_ℤ-*ℤ den r.num) }
  where
    turned : (x y : ℤ) → neg_ℤ x ≡ neg_ℤ y → x ≡ y
    turned x y e = omega (arith, ints, e)
