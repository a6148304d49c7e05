-- What rows span, against the space of which they are rows.
use Rattle.std.proofs.Common.{◌≡◌, ℕ, zero, suc, ◌+◌, ◌<◌, ◌≤◌, List, [], ◌∷◌, ◌++◌, length, get_or, take, Some, refl, sym, ap, subst, ◌∙◌, arith, ℤ, pos, ◌+ℤ◌, ◌*ℤ◌, ◌<ℤ◌}
use Rattle.std.specs.Prelude.{slice_get}
use Rattle.std.specs.List.{AllByRecursion}
use Rattle.std.proofs.lemmas.Int.{ints}
use Rattle.std.proofs.lemmas.List.{get_or_past, take_more, take_all}
use Rattle.std.proofs.lemmas.List.Elements.{recursion_from_All}
use Rattle.std.proofs.Math.IntN.{zero-*ℤ}
use Rattle.items.proofs.Each.{each-more, each-append, each-get}
use Rattle.whole_numbers.proofs.Ring.{ring, *ℤ_cancel, *ℤ-positive}
use Rattle.farkas_check.specs.Ratios.{Fraction, whole}
use Rattle.simplex.proofs.Exchanges.{times_zero}
use Rattle.elimination.specs.declared.vectors.Vector.{Vector}
use Rattle.elimination.specs.declared.spaces.Space.{Space}
use Rattle.elimination.specs.declared.spaces.Space.TheVariants.{Origin}
use Rattle.elimination.specs.Echelon.{number_in, IsSpanned, Zero, Own, Sum, IsReducedOf, AreSmallRatios, width}
use Rattle.elimination.specs.Spaces.{coordinate, cleared_row, ArePositive, IsIn, Extends, IsSum, IsClearing, IsOver, IsRowIn, IsSpanOf, IsSpaceOf, HasWidth, IsBasisOf}
use Rattle.elimination.proofs.Extensions.{one_some, zero_of_product, zero_in, sum_in}
use Rattle.elimination.proofs.Magnitudes.{past_third}

-- ---- rows behind others

slice_get-front : (rows more : List (List Fraction)) (place : ℕ) (row : List Fraction) → slice_get rows place ≡ Some row → slice_get (rows ++ more) place ≡ Some row
slice_get-front [] more place row e = absurd (cc e)
slice_get-front (r ∷ rows) more zero row e = e
slice_get-front (r ∷ rows) more (suc place) row e = slice_get-front rows more place row e

slice_get-last : (rows : List (List Fraction)) (row : List Fraction) → slice_get (rows ++ row ∷ []) (length rows) ≡ Some row
slice_get-last [] row = refl
slice_get-last (r ∷ rows) row = slice_get-last rows row

spanned-more : (rows more : List (List Fraction)) (numbers : ℕ → ℤ) → IsSpanned rows numbers → IsSpanned (rows ++ more) numbers
spanned-more rows more _ (Zero numbers e) = Zero numbers e
spanned-more rows more _ (Own place row numbers here multiple) = Own place row numbers (slice_get-front rows more place row here) multiple
spanned-more rows more _ (Sum first second numbers a b times f s some e) = Sum first second numbers a b times (spanned-more rows more first f) (spanned-more rows more second s) some e

-- ---- numbers that are the same place by place

once : (x y : ℤ) → x ≡ y → pos 1 *ℤ x ≡ pos 1 *ℤ y +ℤ pos 0 *ℤ y
once x y e = omega (arith, ints, e, zero-*ℤ y)

pub spanned-same : (rows : List (List Fraction)) (numbers others : ℕ → ℤ) → ((j : ℕ) → others j ≡ numbers j) → IsSpanned rows numbers → IsSpanned rows others
spanned-same rows numbers others same h = Sum numbers numbers others (pos 1) (pos 0) (pos 1) h h one_some (λ j. once (others j) (numbers j) (same j))

-- ---- places past the last

pub spanned-past : (rows : List (List Fraction)) (n : ℕ) → AllByRecursion (λ (row : List Fraction). length row ≤ n) rows → (numbers : ℕ → ℤ) → IsSpanned rows numbers → (j : ℕ) → n ≤ j → numbers j ≡ pos 0
spanned-past rows n short _ (Zero numbers e) j h = e j
spanned-past rows n short _ (Own place row numbers here multiple) j h =
    nothing (numbers j) (number_in row j) multiple.times (get_or_past row j (whole (pos 0)) (omega (arith, h, each-get (λ (row : List Fraction). length row ≤ n) rows place row short here))) (multiple.same j)
  where
    none : (x t : ℤ) → x *ℤ pos 1 ≡ t *ℤ pos 0 → x ≡ pos 0
    none x t e = let z : t *ℤ pos 0 ≡ pos 0 = times_zero t in omega (arith, ints, e, z)

    nothing : (x : ℤ) (r : Fraction) (t : ℤ) → r ≡ whole (pos 0) → x *ℤ r.den ≡ t *ℤ r.num → x ≡ pos 0
    nothing x r t is e = none x t (subst (λ (s : Fraction). x *ℤ s.den ≡ t *ℤ s.num) is e)
spanned-past rows n short _ (Sum first second numbers a b times f s some e) j h =
    zero_of_product times (numbers j) some (e j ∙ rw (spanned-past rows n short first f j h, spanned-past rows n short second s j h, times_zero a, times_zero b) refl)

-- ---- the first three numbers

abbrev pub first_three : (ℕ → ℤ) → Vector
first_three numbers = record { x = numbers 0; y = numbers 1; z = numbers 2 }

coordinates : (numbers : ℕ → ℤ) → ((j : ℕ) → 3 ≤ j → numbers j ≡ pos 0) → (j : ℕ) → numbers j ≡ coordinate (first_three numbers) j
coordinates numbers past zero = refl
coordinates numbers past (suc zero) = refl
coordinates numbers past (suc (suc zero)) = refl
coordinates numbers past (suc (suc (suc j))) = past (suc (suc (suc j))) (omega arith)

-- ---- a row and its clearing

-- the product of the three denominators
abbrev denominator : List Fraction → ℤ
denominator row = (number_in row 0).den *ℤ (number_in row 1).den *ℤ (number_in row 2).den

cleared_over : (row : List Fraction) → length row ≤ 3 → (j : ℕ) → coordinate (cleared_row row) j *ℤ (number_in row j).den ≡ denominator row *ℤ (number_in row j).num
cleared_over row few zero = plain (number_in row 0).num (number_in row 0).den (number_in row 1).den (number_in row 2).den
  where
    plain : (n a b c : ℤ) → n *ℤ (b *ℤ c) *ℤ a ≡ a *ℤ b *ℤ c *ℤ n
    plain n a b c = simp ring (omega (arith, ints))
cleared_over row few (suc zero) = plain (number_in row 1).num (number_in row 0).den (number_in row 1).den (number_in row 2).den
  where
    plain : (n a b c : ℤ) → n *ℤ (a *ℤ c) *ℤ b ≡ a *ℤ b *ℤ c *ℤ n
    plain n a b c = simp ring (omega (arith, ints))
cleared_over row few (suc (suc zero)) = plain (number_in row 2).num (number_in row 0).den (number_in row 1).den (number_in row 2).den
  where
    plain : (n a b c : ℤ) → n *ℤ (a *ℤ b) *ℤ c ≡ a *ℤ b *ℤ c *ℤ n
    plain n a b c = simp ring (omega (arith, ints))
cleared_over row few (suc (suc (suc j))) = subst (λ (r : Fraction). pos 0 *ℤ r.den ≡ denominator row *ℤ r.num) (sym (past_third row j few)) (none (denominator row))
  where
    none : (t : ℤ) → pos 0 *ℤ pos 1 ≡ t *ℤ pos 0
    none t = sym (times_zero t)

denominator_some : (row : List Fraction) → ArePositive row → denominator row ≡ pos 0 → ⊥
denominator_some row positive e =
    let some : pos 0 <ℤ denominator row = *ℤ-positive ((number_in row 0).den *ℤ (number_in row 1).den) (number_in row 2).den (*ℤ-positive (number_in row 0).den (number_in row 1).den (positive.at 0) (positive.at 1)) (positive.at 2) in
    clash (denominator row) some e
  where
    clash : (d : ℤ) → pos 0 <ℤ d → d ≡ pos 0 → ⊥
    clash d h e = omega (arith, ints, h, e)

-- two multiples of one ratio
pub multiples : (s t n d u v : ℤ) → pos 0 <ℤ d → u *ℤ d ≡ t *ℤ n → v *ℤ d ≡ s *ℤ n → s *ℤ u ≡ t *ℤ v
multiples s t n d u v positive e f = *ℤ_cancel (s *ℤ u) (t *ℤ v) d positive (grouped s u d ∙ ap (λ z. s *ℤ z) e ∙ turned s t n ∙ ap (λ z. t *ℤ z) (sym f) ∙ sym (grouped t v d))
  where
    grouped : (a b c : ℤ) → a *ℤ b *ℤ c ≡ a *ℤ (b *ℤ c)
    grouped a b c = simp ring (omega (arith, ints))

    turned : (s t n : ℤ) → s *ℤ (t *ℤ n) ≡ t *ℤ (s *ℤ n)
    turned s t n = simp ring (omega (arith, ints))

with_none : (x y : ℤ) → x ≡ y → x ≡ y +ℤ pos 0 *ℤ pos 0
with_none x y e = omega (arith, ints, e)

-- a vector of which a multiple is a multiple of one in the space
multiple_in : (space : Space) (v w : Vector) (a t : ℤ) → (t ≡ pos 0 → ⊥) → ((j : ℕ) → t *ℤ coordinate w j ≡ a *ℤ coordinate v j) → IsIn space v → IsIn space w
multiple_in space v w a t some same h =
    sum_in space v (record { x = pos 0; y = pos 0; z = pos 0 }) w a (pos 0) t some
    (with_none (t *ℤ w.x) (a *ℤ v.x) (same 0)) (with_none (t *ℤ w.y) (a *ℤ v.y) (same 1)) (with_none (t *ℤ w.z) (a *ℤ v.z) (same 2))
    h (zero_in space (record { x = pos 0; y = pos 0; z = pos 0 }) (record { x = refl; y = refl; z = refl }))

-- a line that is a vector of the space over a number
pub row_in : (space : Space) (line : List Fraction) (v : Vector) (q : ℤ) → length line ≤ 3 → ArePositive line → IsOver line v q → IsIn space v → IsRowIn space line
row_in space line v q few positive over h = record {
  few = few;
  positive = positive;
  inside = multiple_in space v (cleared_row line) (denominator line) q over.apart
      (λ j. sym (multiples (denominator line) q (number_in line j).num (number_in line j).den (coordinate v j) (coordinate (cleared_row line) j) (positive.at j) (over.same j) (cleared_over line few j))) h;
}

-- ---- what rows of a space span lies in it

pub spanned_in : (space : Space) (rows : List (List Fraction)) → AllByRecursion (IsRowIn space) rows → (numbers : ℕ → ℤ) → IsSpanned rows numbers → IsIn space (first_three numbers)
spanned_in space rows within _ (Zero numbers e) = zero_in space (first_three numbers) (record { x = e 0; y = e 1; z = e 2 })
spanned_in space rows within _ (Own place row numbers here multiple) = own (each-get (IsRowIn space) rows place row within here)
  where
    own : IsRowIn space row → IsIn space (first_three numbers)
    own r = multiple_in space (cleared_row row) (first_three numbers) multiple.times (denominator row) (denominator_some row r.positive) at r.inside
      where
        at_place : (j : ℕ) → denominator row *ℤ numbers j ≡ multiple.times *ℤ coordinate (cleared_row row) j
        at_place j = multiples (denominator row) multiple.times (number_in row j).num (number_in row j).den (numbers j) (coordinate (cleared_row row) j) (r.positive.at j) (multiple.same j) (cleared_over row r.few j)

        at : (j : ℕ) → denominator row *ℤ coordinate (first_three numbers) j ≡ multiple.times *ℤ coordinate (cleared_row row) j
        at zero = at_place 0
        at (suc zero) = at_place 1
        at (suc (suc zero)) = at_place 2
        at (suc (suc (suc j))) = times_zero (denominator row) ∙ sym (times_zero multiple.times)
spanned_in space rows within _ (Sum first second numbers a b times f s some e) =
    sum_in space (first_three first) (first_three second) (first_three numbers) a b times some (e 0) (e 1) (e 2) (spanned_in space rows within first f) (spanned_in space rows within second s)

-- ---- one row more

one_time : (l a b : ℤ) → l ≡ a +ℤ b → l ≡ pos 1 *ℤ a +ℤ b
one_time l a b e = omega (arith, ints, e)

sum_places : (space : Space) (v w : Vector) (s : IsSum space v w) (j : ℕ) → s.times *ℤ coordinate w j ≡ pos 1 *ℤ coordinate s.part j +ℤ s.by *ℤ coordinate v j
sum_places space v w s zero = one_time (s.times *ℤ w.x) s.part.x (s.by *ℤ v.x) s.x
sum_places space v w s (suc zero) = one_time (s.times *ℤ w.y) s.part.y (s.by *ℤ v.y) s.y
sum_places space v w s (suc (suc zero)) = one_time (s.times *ℤ w.z) s.part.z (s.by *ℤ v.z) s.z
sum_places space v w s (suc (suc (suc j))) = times_zero s.times ∙ rw (times_zero s.by) refl

one_more : (rows : List (List Fraction)) (row : List Fraction) (before after : Space) → IsSpanOf rows before → length row ≤ 3 → ArePositive row → Extends before (cleared_row row) after → IsSpanOf (rows ++ row ∷ []) after
one_more rows row before after span few positive x = record {
  within =
      each-append (IsRowIn after) rows (row ∷ []) (each-more (IsRowIn before) (IsRowIn after) (λ r h. record { few = h.few; positive = h.positive; inside = x.kept (cleared_row r) h.inside }) rows span.within)
      (record { few = few; positive = positive; inside = x.own }, tt);
  spanned = λ w h. made w (x.made w h);
}
  where
    made : (w : Vector) → IsSum before (cleared_row row) w → IsSpanned (rows ++ row ∷ []) (coordinate w)
    made w s =
        Sum (coordinate s.part) (coordinate (cleared_row row)) (coordinate w) (pos 1) s.by s.times
        (spanned-more rows (row ∷ []) (coordinate s.part) (span.spanned s.part s.within))
        (Own (length rows) row (coordinate (cleared_row row)) (slice_get-last rows row) (record { times = denominator row; same = cleared_over row few }))
        s.apart (sum_places before (cleared_row row) w s)

-- ---- for the code

pub zeros : (w : Vector) → IsIn Origin w → (j : ℕ) → coordinate w j ≡ pos 0
zeros w h zero = h.x
zeros w h (suc zero) = h.y
zeros w h (suc (suc zero)) = h.z
zeros w h (suc (suc (suc j))) = refl

pub none_yet : IsSpaceOf [] Origin
none_yet = record { proper = tt; span = record { within = tt; spanned = λ w h. Zero (coordinate w) (zeros w h) } }

pub next_row : (rows : List (List Fraction)) (i : ℕ) (row : List Fraction) (v : Vector) (before after : Space) → i < length rows → row ≡ get_or rows i row → length row ≤ 3
    → IsClearing row v → IsSpaceOf (take i rows) before → Extends before v after → IsSpaceOf (take (i + 1) rows) after
next_row rows i row v before after here is few clear space x =
    subst (λ (front : List (List Fraction)). IsSpaceOf front after) (sym (take_more rows i row here ∙ ap (λ (r : List Fraction). take i rows ++ r ∷ []) (sym is)))
    (record { proper = x.proper; span = one_more (take i rows) row before after space.span few clear.positive (subst (λ (u : Vector). Extends before u after) clear.value x) })

pub few_at : (rows : List (List Fraction)) (i : ℕ) (row : List Fraction) → AreSmallRatios rows → i < length rows → row ≡ get_or rows i row → length row ≤ 3
few_at rows i row small here is =
    let e : length (get_or rows i row) ≡ width rows = small.equal i row here in
    let same : length row ≡ length (get_or rows i row) = ap length is in
    omega (arith, e, same, small.few)

pub all_rows : (rows : List (List Fraction)) (n : ℕ) (space : Space) → length rows ≤ n → IsSpaceOf (take n rows) space → IsSpaceOf rows space
all_rows rows n space h s = subst (λ (front : List (List Fraction)). IsSpaceOf front space) (take_all n rows h) s

-- ---- the basis of a space of rows

pub width_of : (rows : List (List Fraction)) (space : Space) → AreSmallRatios rows → IsSpaceOf rows space → HasWidth (width rows) space
width_of rows space small s = record {
  zero_past = λ w h j past. spanned-past rows (width rows) (each-more (λ (row : List Fraction). length row ≡ width rows) (λ (row : List Fraction). length row ≤ width rows) (λ row e. omega (arith, e)) rows (recursion_from_All (λ (row : List Fraction). length row ≡ width rows) rows small.equal)) (coordinate w) (s.span.spanned w h) j past;
}

few_each : (space : Space) (rows : List (List Fraction)) → AllByRecursion (IsRowIn space) rows → AllByRecursion (λ (row : List Fraction). length row ≤ 3) rows
few_each space rows within = each-more (IsRowIn space) (λ (row : List Fraction). length row ≤ 3) (λ row r. r.few) rows within

transferred : (rows lines : List (List Fraction)) (space : Space) → IsSpanOf rows space → IsSpanOf lines space → (numbers : ℕ → ℤ) → IsSpanned rows numbers → IsSpanned lines numbers
transferred rows lines space r l numbers h =
    spanned-same lines (coordinate (first_three numbers)) numbers (coordinates numbers (spanned-past rows 3 (few_each space rows r.within) numbers h))
    (l.spanned (first_three numbers) (spanned_in space rows r.within numbers h))

pub reduced_of : (rows lines : List (List Fraction)) (space : Space) → IsSpaceOf rows space → IsBasisOf (width rows) space lines → IsReducedOf rows lines
reduced_of rows lines space s b = record {
  equal = b.equal;
  echelon = b.echelon;
  same = λ numbers. (transferred rows lines space s.span b.span numbers, transferred lines rows space b.span s.span numbers);
}
