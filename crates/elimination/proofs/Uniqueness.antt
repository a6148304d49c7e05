-- Rows have one reduced basis: two lists of lines in reduced echelon form that span the same are
-- one list.
use Rattle.std.proofs.Common.{◌≡◌, ℕ, zero, suc, ◌*◌, ◌<◌, ◌≤◌, Bool, true, false, cond, List, [], ◌∷◌, length, Some, refl, sym, ap, subst, ◌∙◌, arith, ⊎_elim, ℤ, pos, ◌+ℤ◌, ◌*ℤ◌, ◌<ℤ◌}
use Rattle.std.specs.Prelude.{slice_get, neg_ℤ, unsigned_abs}
use Rattle.std.specs.List.{AllByRecursion}
use Rattle.std.proofs.lemmas.Int.{ints, unsigned_abs-mul}
use Rattle.std.proofs.lemmas.Bool.{cases_lt}
use Rattle.std.proofs.lemmas.Bool.Decides.{Decides-int_eq}
use Rattle.std.proofs.Math.IntN.{*ℤ_comm, zero-*ℤ}
use Rattle.items.proofs.Each.{each-more, each-both, each-get}
use Rattle.whole_numbers.specs.Divisors.{gcd_of}
use Rattle.whole_numbers.proofs.CommonDivisors.{gcd_of-times}
use Rattle.whole_numbers.proofs.Ring.{ring, *ℤ_cancel, *ℤ-positive, unsigned_abs-positive}
use Rattle.farkas_check.specs.Multiples.{is_zero}
use Rattle.farkas_check.specs.Ratios.{Fraction, IsLowest, whole}
use Rattle.farkas_check.proofs.Lowest.{IsLowest-whole}
use Rattle.simplex.proofs.Exchanges.{times_zero}
use Rattle.elimination.specs.Echelon.{number_in, width, pivot_in, IsSpanned, Zero, Own, Sum, HasUnitPivot, StandsBefore, IsEchelon, OneReducedBasis}
use Rattle.elimination.proofs.Extensions.{one_some, zero_of_product}
use Rattle.elimination.proofs.RowSpans.{multiples}

-- ---- ratios in lowest terms

same_ratio : (r s : Fraction) → IsLowest r → IsLowest s → r.num *ℤ s.den ≡ s.num *ℤ r.den → r ≡ s
same_ratio r s l m e = joined r.num s.num r.den s.den tops dens
  where
    joined : (n k d f : ℤ) → n ≡ k → d ≡ f → ◌≡◌ {A = Fraction} (record { num = n; den = d }) (record { num = k; den = f })
    joined n k d f x y = rw (x, y) refl

    crossed : unsigned_abs r.num * unsigned_abs s.den ≡ unsigned_abs s.num * unsigned_abs r.den
    crossed = sym (unsigned_abs-mul r.num s.den) ∙ ap unsigned_abs e ∙ unsigned_abs-mul s.num r.den

    sizes : unsigned_abs r.den ≡ unsigned_abs s.den
    sizes =
        let left : gcd_of (unsigned_abs s.num * unsigned_abs r.den) (unsigned_abs s.den * unsigned_abs r.den) ≡ gcd_of (unsigned_abs s.num) (unsigned_abs s.den) * unsigned_abs r.den = gcd_of-times (unsigned_abs s.num) (unsigned_abs s.den) (unsigned_abs r.den) (unsigned_abs-positive r.den l.positive) in
        let right : gcd_of (unsigned_abs r.num * unsigned_abs s.den) (unsigned_abs r.den * unsigned_abs s.den) ≡ gcd_of (unsigned_abs r.num) (unsigned_abs r.den) * unsigned_abs s.den = gcd_of-times (unsigned_abs r.num) (unsigned_abs r.den) (unsigned_abs s.den) (unsigned_abs-positive s.den m.positive) in
        once (unsigned_abs r.den) ∙ ap (λ g. g * unsigned_abs r.den) (sym m.lowest) ∙ sym left
        ∙ ap (λ n. gcd_of n (unsigned_abs s.den * unsigned_abs r.den)) (sym crossed) ∙ ap (gcd_of (unsigned_abs r.num * unsigned_abs s.den)) (turned (unsigned_abs s.den) (unsigned_abs r.den))
        ∙ right ∙ ap (λ g. g * unsigned_abs s.den) l.lowest ∙ sym (once (unsigned_abs s.den))
      where
        once : (n : ℕ) → n ≡ 1 * n
        once n = omega arith

        turned : (a b : ℕ) → a * b ≡ b * a
        turned a b = omega arith

    dens : r.den ≡ s.den
    dens = let p : pos 0 <ℤ r.den = l.positive in let q : pos 0 <ℤ s.den = m.positive in let f : unsigned_abs r.den ≡ unsigned_abs s.den = sizes in omega (arith, ints, p, q, f)

    tops : r.num ≡ s.num
    tops = *ℤ_cancel r.num s.num s.den m.positive (e ∙ ap (λ d. s.num *ℤ d) dens)

lowest_in : (line : List Fraction) (j : ℕ) → AllByRecursion IsLowest line → IsLowest (number_in line j)
lowest_in [] j h = IsLowest-whole (pos 0)
lowest_in (r ∷ line) zero h = h.0
lowest_in (r ∷ line) (suc j) h = lowest_in line j h.1

-- lists of one length with the same numbers
same_line : (line other : List Fraction) → length line ≡ length other → ((j : ℕ) → number_in line j ≡ number_in other j) → line ≡ other
same_line [] [] e h = refl
same_line [] (s ∷ other) e h = absurd (omega (arith, e))
same_line (r ∷ line) [] e h = absurd (omega (arith, e))
same_line (r ∷ line) (s ∷ other) e h = rw (h 0, same_line line other (omega (arith, e)) (λ j. h (suc j))) refl

-- ---- a line as a vector over the product of its denominators

abbrev product_of_dens : List Fraction → ℤ
product_of_dens [] = pos 1
product_of_dens (r ∷ line) = r.den *ℤ product_of_dens line

abbrev scaled : List Fraction → ℕ → ℤ
scaled [] j = pos 0
scaled (r ∷ line) zero = r.num *ℤ product_of_dens line
scaled (r ∷ line) (suc j) = r.den *ℤ scaled line j

scaled-is : (line : List Fraction) (j : ℕ) → scaled line j *ℤ (number_in line j).den ≡ product_of_dens line *ℤ (number_in line j).num
scaled-is [] j = refl
scaled-is (r ∷ line) zero = turned r.num (product_of_dens line) r.den
  where
    turned : (n p d : ℤ) → n *ℤ p *ℤ d ≡ d *ℤ p *ℤ n
    turned n p d = simp ring (omega (arith, ints))
scaled-is (r ∷ line) (suc j) = grouped r.den (scaled line j) (number_in line j).den ∙ ap (λ z. r.den *ℤ z) (scaled-is line j) ∙ sym (grouped r.den (product_of_dens line) (number_in line j).num)
  where
    grouped : (a b c : ℤ) → a *ℤ b *ℤ c ≡ a *ℤ (b *ℤ c)
    grouped a b c = simp ring (omega (arith, ints))

product_of_dens-positive : (line : List Fraction) → AllByRecursion IsLowest line → pos 0 <ℤ product_of_dens line
product_of_dens-positive [] h = omega (arith, ints)
product_of_dens-positive (r ∷ line) h = *ℤ-positive r.den (product_of_dens line) h.0.positive (product_of_dens-positive line h.1)

not_zero : (z : ℤ) → pos 0 <ℤ z → z ≡ pos 0 → ⊥
not_zero z h e = omega (arith, ints, h, e)

-- the vector is 0 where the line is
scaled-zero : (line : List Fraction) (j : ℕ) → AllByRecursion IsLowest line → (number_in line j).num ≡ pos 0 → scaled line j ≡ pos 0
scaled-zero line j h e = zero_of_product (number_in line j).den (scaled line j) (not_zero (number_in line j).den (lowest_in line j h).positive) (*ℤ_comm (number_in line j).den (scaled line j) ∙ scaled-is line j ∙ ap (λ z. product_of_dens line *ℤ z) e ∙ times_zero (product_of_dens line))

-- and at its pivot it is the product of the denominators
scaled-pivot : (line : List Fraction) → HasUnitPivot line → scaled line (pivot_in line) ≡ product_of_dens line
scaled-pivot line unit = at_one (number_in line (pivot_in line)) unit (scaled-is line (pivot_in line))
  where
    at_one : (r : Fraction) → r ≡ whole (pos 1) → scaled line (pivot_in line) *ℤ r.den ≡ product_of_dens line *ℤ r.num → scaled line (pivot_in line) ≡ product_of_dens line
    at_one r is e = plain (scaled line (pivot_in line)) (product_of_dens line) (subst (λ (s : Fraction). scaled line (pivot_in line) *ℤ s.den ≡ product_of_dens line *ℤ s.num) is e)
      where
        plain : (x y : ℤ) → x *ℤ pos 1 ≡ y *ℤ pos 1 → x ≡ y
        plain x y e = omega (arith, ints, e)

own_scaled : (rows : List (List Fraction)) (place : ℕ) (row : List Fraction) → slice_get rows place ≡ Some row → IsSpanned rows (scaled row)
own_scaled rows place row here = Own place row (scaled row) here (record { times = product_of_dens row; same = scaled-is row })

-- ---- places where all lines are 0

zero_there : (lines : List (List Fraction)) (j : ℕ) → AllByRecursion (AllByRecursion IsLowest) lines → AllByRecursion (λ (line : List Fraction). (number_in line j).num ≡ pos 0) lines → (w : ℕ → ℤ) → IsSpanned lines w → w j ≡ pos 0
zero_there lines j low h _ (Zero w e) = e j
zero_there lines j low h _ (Own place line w here multiple) =
    zero_of_product (number_in line j).den (w j)
    (not_zero (number_in line j).den (lowest_in line j (each-get (AllByRecursion IsLowest) lines place line low here)).positive)
    (*ℤ_comm (number_in line j).den (w j) ∙ multiple.same j ∙ ap (λ z. multiple.times *ℤ z) (each-get (λ (line : List Fraction). (number_in line j).num ≡ pos 0) lines place line h here) ∙ times_zero multiple.times)
zero_there lines j low h _ (Sum f s w a b times hf hs some e) =
    zero_of_product times (w j) some (e j ∙ rw (zero_there lines j low h f hf, zero_there lines j low h s hs, times_zero a, times_zero b) refl)

-- a line is 0 before its pivot
before_pivot : (line : List Fraction) (j : ℕ) → j < pivot_in line → (number_in line j).num ≡ pos 0
before_pivot [] j h = refl
before_pivot (r ∷ line) j h = go (is_zero r.num) refl (λ k g. before_pivot line k g) j h
  where
    go : (t : Bool) → is_zero r.num ≡ t → ((k : ℕ) → k < pivot_in line → (number_in line k).num ≡ pos 0) → (j : ℕ) → j < cond t (suc (pivot_in line)) 0 → (number_in (r ∷ line) j).num ≡ pos 0
    go true e rest zero h = (Decides-int_eq r.num (pos 0)).0 e
    go true e rest (suc j) h = rest j (omega (arith, h))
    go false e rest j h = absurd (omega (arith, h))

-- the lines behind a line are 0 at its pivot
behind_zero : (line : List Fraction) (lines : List (List Fraction)) → AllByRecursion (StandsBefore line) lines → AllByRecursion (λ (later : List Fraction). (number_in later (pivot_in line)).num ≡ pos 0) lines
behind_zero line lines h = each-more (StandsBefore line) (λ (later : List Fraction). (number_in later (pivot_in line)).num ≡ pos 0) (λ later b. before_pivot later (pivot_in line) b.rising) lines h

-- ---- the first line and the others

spanned_behind : (line : List Fraction) (lines : List (List Fraction)) (w : ℕ → ℤ) → IsSpanned lines w → IsSpanned (line ∷ lines) w
spanned_behind line lines _ (Zero w e) = Zero w e
spanned_behind line lines _ (Own place row w here multiple) = Own (suc place) row w here multiple
spanned_behind line lines _ (Sum f s w a b times hf hs some e) = Sum f s w a b times (spanned_behind line lines f hf) (spanned_behind line lines s hs) some e

-- a multiple of a vector is a multiple of the first line, and what the others span
pub record IsSplit (line : List Fraction) (lines : List (List Fraction)) (w : ℕ → ℤ) : Type 0 where
  pub times : ℤ
  pub a : ℤ
  pub rest : ℕ → ℤ
  pub apart : times ≡ pos 0 → ⊥
  pub spanned : IsSpanned lines rest
  pub same : (j : ℕ) → times *ℤ w j ≡ a *ℤ scaled line j +ℤ rest j

alone : (v x : ℤ) → pos 1 *ℤ x ≡ pos 0 *ℤ v +ℤ x
alone v x = omega (arith, ints, zero-*ℤ v)

two_some : (a b : ℤ) → (a ≡ pos 0 → ⊥) → (b ≡ pos 0 → ⊥) → a *ℤ b ≡ pos 0 → ⊥
two_some a b h k e = k (zero_of_product a b h e)

split : (line : List Fraction) (lines : List (List Fraction)) → AllByRecursion IsLowest line → (w : ℕ → ℤ) → IsSpanned (line ∷ lines) w → IsSplit line lines w
split line lines low _ (Zero w e) = record { times = pos 1; a = pos 0; rest = w; apart = one_some; spanned = Zero w e; same = λ j. alone (scaled line j) (w j) }
split line lines low _ (Own zero row w here multiple) = first (here_is here)
  where
    here_is : Some line ≡ Some row → row ≡ line
    here_is e = cc

    with_none : (x y : ℤ) → x ≡ y → x ≡ y +ℤ pos 0
    with_none x y e = omega (arith, ints, e)

    first : row ≡ line → IsSplit line lines w
    first is = record {
      times = product_of_dens line;
      a = multiple.times;
      rest = λ j. pos 0;
      apart = not_zero (product_of_dens line) (product_of_dens-positive line low);
      spanned = Zero (λ j. pos 0) (λ j. refl);
      same = λ j. with_none (product_of_dens line *ℤ w j) (multiple.times *ℤ scaled line j)
          (multiples (product_of_dens line) multiple.times (number_in line j).num (number_in line j).den (w j) (scaled line j) (lowest_in line j low).positive
          (subst (λ (r : List Fraction). w j *ℤ (number_in r j).den ≡ multiple.times *ℤ (number_in r j).num) is (multiple.same j)) (scaled-is line j));
    }
split line lines low _ (Own (suc place) row w here multiple) = record {
  times = pos 1;
  a = pos 0;
  rest = w;
  apart = one_some;
  spanned = Own place row w here multiple;
  same = λ j. alone (scaled line j) (w j);
}
split line lines low _ (Sum f s w a b times hf hs some e) = both (split line lines low f hf) (split line lines low s hs)
  where
    both : IsSplit line lines f → IsSplit line lines s → IsSplit line lines w
    both x y = record {
      times = x.times *ℤ y.times *ℤ times;
      a = a *ℤ y.times *ℤ x.a +ℤ b *ℤ x.times *ℤ y.a;
      rest = λ j. a *ℤ y.times *ℤ x.rest j +ℤ b *ℤ x.times *ℤ y.rest j;
      apart = two_some (x.times *ℤ y.times) times (two_some x.times y.times x.apart y.apart) some;
      spanned = Sum x.rest y.rest (λ j. a *ℤ y.times *ℤ x.rest j +ℤ b *ℤ x.times *ℤ y.rest j) (a *ℤ y.times) (b *ℤ x.times) (pos 1) x.spanned y.spanned one_some (λ j. one_time (a *ℤ y.times *ℤ x.rest j +ℤ b *ℤ x.times *ℤ y.rest j));
      same = λ j. chain x.times y.times times a b x.a y.a (w j) (f j) (s j) (scaled line j) (x.rest j) (y.rest j) (e j) (x.same j) (y.same j);
    }
      where
        one_time : (z : ℤ) → pos 1 *ℤ z ≡ z
        one_time z = omega (arith, ints)

        chain : (t u q a b c d w f s v g h : ℤ) → q *ℤ w ≡ a *ℤ f +ℤ b *ℤ s → t *ℤ f ≡ c *ℤ v +ℤ g → u *ℤ s ≡ d *ℤ v +ℤ h
            → t *ℤ u *ℤ q *ℤ w ≡ (a *ℤ u *ℤ c +ℤ b *ℤ t *ℤ d) *ℤ v +ℤ (a *ℤ u *ℤ g +ℤ b *ℤ t *ℤ h)
        chain t u q a b c d w f s v g h e k l =
            outer ∙ ap (λ z. t *ℤ u *ℤ z) e ∙ inner ∙ ap (λ z. a *ℤ u *ℤ z +ℤ b *ℤ t *ℤ (u *ℤ s)) k ∙ ap (λ z. a *ℤ u *ℤ (c *ℤ v +ℤ g) +ℤ b *ℤ t *ℤ z) l ∙ regroup
          where
            outer : t *ℤ u *ℤ q *ℤ w ≡ t *ℤ u *ℤ (q *ℤ w)
            outer = simp ring (omega (arith, ints))

            inner : t *ℤ u *ℤ (a *ℤ f +ℤ b *ℤ s) ≡ a *ℤ u *ℤ (t *ℤ f) +ℤ b *ℤ t *ℤ (u *ℤ s)
            inner = simp ring (omega (arith, ints))

            regroup : a *ℤ u *ℤ (c *ℤ v +ℤ g) +ℤ b *ℤ t *ℤ (d *ℤ v +ℤ h) ≡ (a *ℤ u *ℤ c +ℤ b *ℤ t *ℤ d) *ℤ v +ℤ (a *ℤ u *ℤ g +ℤ b *ℤ t *ℤ h)
            regroup = simp ring (omega (arith, ints))

-- what is spanned and 0 at the first line's pivot is spanned by the others
spanned_rest : (line : List Fraction) (lines : List (List Fraction)) → AllByRecursion (AllByRecursion IsLowest) (line ∷ lines) → IsEchelon (line ∷ lines) → (w : ℕ → ℤ) → IsSpanned (line ∷ lines) w → w (pivot_in line) ≡ pos 0 → IsSpanned lines w
spanned_rest line lines low form w h z = made (split line lines low.0 w h)
  where
    made : IsSplit line lines w → IsSpanned lines w
    made s = Sum s.rest s.rest w (pos 1) (pos 0) s.times s.spanned s.spanned s.apart (λ j. only (s.times *ℤ w j) s.a (scaled line j) (s.rest j) none (s.same j))
      where
        rest_zero : s.rest (pivot_in line) ≡ pos 0
        rest_zero = zero_there lines (pivot_in line) low.1 (behind_zero line lines form.1) s.rest s.spanned

        left : (x y r : ℤ) → x ≡ pos 0 → r ≡ pos 0 → x ≡ y +ℤ r → y ≡ pos 0
        left x y r ex er e = omega (arith, ints, ex, er, e)

        none : s.a ≡ pos 0
        none = zero_of_product (product_of_dens line) s.a (not_zero (product_of_dens line) (product_of_dens-positive line low.0))
            (*ℤ_comm (product_of_dens line) s.a ∙ ap (λ z. s.a *ℤ z) (sym (scaled-pivot line form.0)) ∙ left (s.times *ℤ w (pivot_in line)) (s.a *ℤ scaled line (pivot_in line)) (s.rest (pivot_in line)) (ap (λ z. s.times *ℤ z) z ∙ times_zero s.times) rest_zero (s.same (pivot_in line)))

        only : (x a v r : ℤ) → a ≡ pos 0 → x ≡ a *ℤ v +ℤ r → x ≡ pos 1 *ℤ r +ℤ pos 0 *ℤ r
        only x a v r ea e = let g : a *ℤ v ≡ pos 0 = ap (λ z. z *ℤ v) ea ∙ zero-*ℤ v in omega (arith, ints, e, g, zero-*ℤ r)

-- what is spanned and 0 at all pivots is 0
zero_at_pivots : (lines : List (List Fraction)) → AllByRecursion (AllByRecursion IsLowest) lines → IsEchelon lines → (w : ℕ → ℤ) → IsSpanned lines w → AllByRecursion (λ (line : List Fraction). w (pivot_in line) ≡ pos 0) lines → (j : ℕ) → w j ≡ pos 0
zero_at_pivots [] low form w h z j = zero_there [] j tt tt w h
zero_at_pivots (line ∷ lines) low form w h z j = zero_at_pivots lines low.1 form.2 w (spanned_rest line lines low form w h z.0) z.1 j

-- ---- two bases

-- a line that is spanned has its pivot no earlier than the first of all
pivot_later : (line : List Fraction) (lines : List (List Fraction)) (other : List Fraction) → AllByRecursion (AllByRecursion IsLowest) (line ∷ lines) → IsEchelon (line ∷ lines) → AllByRecursion IsLowest other → HasUnitPivot other
    → IsSpanned (line ∷ lines) (scaled other) → pivot_in line ≤ pivot_in other
pivot_later line lines other low form lowest unit h =
    ⊎_elim (λ (early : pivot_in other < pivot_in line). absurd (not_zero (product_of_dens other) (product_of_dens-positive other lowest) (sym (scaled-pivot other unit) ∙ zero_there (line ∷ lines) (pivot_in other) low (before_pivot line (pivot_in other) early, behind early) (scaled other) h)))
    (λ (late : pivot_in line ≤ pivot_in other). late) (cases_lt (pivot_in other) (pivot_in line))
  where
    behind : pivot_in other < pivot_in line → AllByRecursion (λ (later : List Fraction). (number_in later (pivot_in other)).num ≡ pos 0) lines
    behind early = each-more (StandsBefore line) (λ (later : List Fraction). (number_in later (pivot_in other)).num ≡ pos 0)
        (λ later b. before_pivot later (pivot_in other) (let r : pivot_in line < pivot_in later = b.rising in omega (arith, r, early))) lines form.1

-- lines of no rows span 0 alone
none_spanned : (line : List Fraction) → AllByRecursion IsLowest line → HasUnitPivot line → IsSpanned [] (scaled line) → ⊥
none_spanned line low unit h = not_zero (product_of_dens line) (product_of_dens-positive line low) (sym (scaled-pivot line unit) ∙ zero_there [] (pivot_in line) tt tt (scaled line) h)

-- what two lines with one pivot differ by, over a common number
abbrev difference : List Fraction → List Fraction → ℕ → ℤ
difference line other j = product_of_dens other *ℤ scaled line j +ℤ neg_ℤ (product_of_dens line) *ℤ scaled other j

difference-zero : (line other : List Fraction) (j : ℕ) → scaled line j ≡ pos 0 → scaled other j ≡ pos 0 → difference line other j ≡ pos 0
difference-zero line other j e f = rw (e, f, times_zero (product_of_dens other), times_zero (neg_ℤ (product_of_dens line))) refl

difference-pivot : (line other : List Fraction) → HasUnitPivot line → HasUnitPivot other → pivot_in line ≡ pivot_in other → difference line other (pivot_in line) ≡ pos 0
difference-pivot line other h k e = rw (scaled-pivot line h, ap (scaled other) e, scaled-pivot other k) (none (product_of_dens line) (product_of_dens other))
  where
    none : (a b : ℤ) → b *ℤ a +ℤ neg_ℤ a *ℤ b ≡ pos 0
    none a b = simp ring (omega (arith, ints))

-- where they do not differ, the numbers are the same
difference-same : (line other : List Fraction) (j : ℕ) → AllByRecursion IsLowest line → AllByRecursion IsLowest other → difference line other j ≡ pos 0 → number_in line j ≡ number_in other j
difference-same line other j low lowest e =
    same_ratio r s (lowest_in line j low) (lowest_in other j lowest)
    (*ℤ_cancel (r.num *ℤ s.den) (s.num *ℤ r.den) (p *ℤ q) (*ℤ-positive p q (product_of_dens-positive line low) (product_of_dens-positive other lowest))
    (first r.num s.den p q ∙ ap (λ z. z *ℤ (s.den *ℤ q)) (sym (scaled-is line j)) ∙ second (scaled line j) r.den s.den q ∙ ap (λ z. z *ℤ (r.den *ℤ s.den)) level ∙ third p (scaled other j) r.den s.den ∙ ap (λ z. p *ℤ r.den *ℤ z) (scaled-is other j) ∙ fourth p r.den q s.num))
  where
    r : Fraction
    r = number_in line j

    s : Fraction
    s = number_in other j

    p : ℤ
    p = product_of_dens line

    q : ℤ
    q = product_of_dens other

    turned : (x y : ℤ) → x +ℤ neg_ℤ y ≡ pos 0 → x ≡ y
    turned x y e = omega (arith, ints, e)

    level : q *ℤ scaled line j ≡ p *ℤ scaled other j
    level = turned (q *ℤ scaled line j) (p *ℤ scaled other j) (ap (λ z. q *ℤ scaled line j +ℤ z) (sym (negated p (scaled other j))) ∙ e)
      where
        negated : (a b : ℤ) → neg_ℤ a *ℤ b ≡ neg_ℤ (a *ℤ b)
        negated a b = simp ring (omega (arith, ints))

    first : (n e p q : ℤ) → n *ℤ e *ℤ (p *ℤ q) ≡ p *ℤ n *ℤ (e *ℤ q)
    first n e p q = simp ring (omega (arith, ints))

    second : (v d e q : ℤ) → v *ℤ d *ℤ (e *ℤ q) ≡ q *ℤ v *ℤ (d *ℤ e)
    second v d e q = simp ring (omega (arith, ints))

    third : (p u d e : ℤ) → p *ℤ u *ℤ (d *ℤ e) ≡ p *ℤ d *ℤ (u *ℤ e)
    third p u d e = simp ring (omega (arith, ints))

    fourth : (p d q k : ℤ) → p *ℤ d *ℤ (q *ℤ k) ≡ k *ℤ d *ℤ (p *ℤ q)
    fourth p d q k = simp ring (omega (arith, ints))

-- what the others span in one basis, they span in the other
rest_spanned : (line other : List Fraction) (lines others : List (List Fraction)) → AllByRecursion (AllByRecursion IsLowest) (line ∷ lines) → AllByRecursion (AllByRecursion IsLowest) (other ∷ others)
    → IsEchelon (line ∷ lines) → IsEchelon (other ∷ others) → pivot_in line ≡ pivot_in other → ((w : ℕ → ℤ) → IsSpanned (line ∷ lines) w → IsSpanned (other ∷ others) w) → (w : ℕ → ℤ) → IsSpanned lines w → IsSpanned others w
rest_spanned line other lines others low lowest form last same to w h =
    spanned_rest other others lowest last w (to w (spanned_behind line lines w h)) (ap w (sym same) ∙ zero_there lines (pivot_in line) low.1 (behind_zero line lines form.1) w h)

-- the first lines are one, if the others are
first_line : (line other : List Fraction) (lines others : List (List Fraction)) → AllByRecursion (AllByRecursion IsLowest) (line ∷ lines) → AllByRecursion IsLowest other
    → IsEchelon (line ∷ lines) → IsEchelon (other ∷ others) → length line ≡ length other → pivot_in line ≡ pivot_in other → lines ≡ others → IsSpanned (line ∷ lines) (scaled other) → line ≡ other
first_line line other lines others low lowest form last long same behind h = same_line line other long (λ j. difference-same line other j low.0 lowest (nothing j))
  where
    one_time : (z : ℤ) → pos 1 *ℤ z ≡ z
    one_time z = omega (arith, ints)

    spanned : IsSpanned (line ∷ lines) (difference line other)
    spanned = Sum (scaled line) (scaled other) (difference line other) (product_of_dens other) (neg_ℤ (product_of_dens line)) (pos 1) (own_scaled (line ∷ lines) 0 line refl) h one_some (λ j. one_time (difference line other j))

    both : AllByRecursion (λ (later : List Fraction). StandsBefore line later × StandsBefore other later) lines
    both = each-both (StandsBefore line) (StandsBefore other) lines form.1 (subst (AllByRecursion (StandsBefore other)) (sym behind) last.1)

    at_pivots : AllByRecursion (λ (later : List Fraction). difference line other (pivot_in later) ≡ pos 0) lines
    at_pivots =
        each-more (λ (later : List Fraction). StandsBefore line later × StandsBefore other later) (λ (later : List Fraction). difference line other (pivot_in later) ≡ pos 0)
        (λ later b. difference-zero line other (pivot_in later) (scaled-zero line (pivot_in later) low.0 (ap (λ (r : Fraction). r.num) b.0.alone)) (scaled-zero other (pivot_in later) lowest (ap (λ (r : Fraction). r.num) b.1.alone))) lines both

    nothing : (j : ℕ) → difference line other j ≡ pos 0
    nothing j =
        zero_at_pivots lines low.1 form.2 (difference line other)
        (spanned_rest line lines low form (difference line other) spanned (difference-pivot line other form.0 last.0 same)) at_pivots j

pivots_same : (line other : List Fraction) (lines others : List (List Fraction)) → AllByRecursion (AllByRecursion IsLowest) (line ∷ lines) → AllByRecursion (AllByRecursion IsLowest) (other ∷ others)
    → IsEchelon (line ∷ lines) → IsEchelon (other ∷ others) → IsSpanned (other ∷ others) (scaled line) → IsSpanned (line ∷ lines) (scaled other) → pivot_in line ≡ pivot_in other
pivots_same line other lines others low lowest form last h k =
    let a : pivot_in line ≤ pivot_in other = pivot_later line lines other low form lowest.0 last.0 k in
    let b : pivot_in other ≤ pivot_in line = pivot_later other others line lowest last low.0 form.0 h in
    omega (arith, a, b)

lines_same : (n : ℕ) (lines others : List (List Fraction)) → AllByRecursion (AllByRecursion IsLowest) lines → AllByRecursion (AllByRecursion IsLowest) others → IsEchelon lines → IsEchelon others
    → AllByRecursion (λ (line : List Fraction). length line ≡ n) lines → AllByRecursion (λ (line : List Fraction). length line ≡ n) others
    → ((w : ℕ → ℤ) → IsSpanned lines w → IsSpanned others w) → ((w : ℕ → ℤ) → IsSpanned others w → IsSpanned lines w) → lines ≡ others
lines_same n [] [] low lowest form last long lengths to from = refl
lines_same n [] (other ∷ others) low lowest form last long lengths to from = absurd (none_spanned other lowest.0 last.0 (from (scaled other) (own_scaled (other ∷ others) 0 other refl)))
lines_same n (line ∷ lines) [] low lowest form last long lengths to from = absurd (none_spanned line low.0 form.0 (to (scaled line) (own_scaled (line ∷ lines) 0 line refl)))
lines_same n (line ∷ lines) (other ∷ others) low lowest form last long lengths to from =
    let same : pivot_in line ≡ pivot_in other = pivots_same line other lines others low lowest form last (to (scaled line) (own_scaled (line ∷ lines) 0 line refl)) (from (scaled other) (own_scaled (other ∷ others) 0 other refl)) in
    let behind : lines ≡ others = lines_same n lines others low.1 lowest.1 form.2 last.2 long.1 lengths.1 (rest_spanned line other lines others low lowest form last same to) (rest_spanned other line others lines lowest low last form (sym same) from) in
    let first : line ≡ other = first_line line other lines others low lowest.0 form last (long.0 ∙ sym lengths.0) same behind (from (scaled other) (own_scaled (other ∷ others) 0 other refl)) in
    rw (first, behind) refl

pub one_reduced_basis : OneReducedBasis
one_reduced_basis rows lines others low lowest r s =
    lines_same (width rows) lines others low lowest r.echelon s.echelon r.equal s.equal (λ w h. (s.same w).0 ((r.same w).1 h)) (λ w h. (r.same w).0 ((s.same w).1 h))
