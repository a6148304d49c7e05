-- The corner of rows that are all kept: no part of the test of its numbers is false.
use Rattle.std.proofs.Common.{◌≡◌, ◌≢◌, ◌⊎◌, inl, inr, ℕ, zero, suc, ◌+◌, ◌<◌, Bool, true, false, cond, List, [], ◌∷◌, length, get_or, Result, Ok, Err, refl, sym, ap, subst, ◌∙◌, arith, ⊎_elim, ℤ, pos, negsuc, ◌+ℤ◌, ◌-ℤ◌, ◌*ℤ◌, ◌≤ℤ◌, ◌<ℤ◌}
use Rattle.std.specs.Prelude.{◌==◌, nat_eq, neg_ℤ, slice_get, Some}
use Rattle.std.specs.List.{AllByRecursion}
use Rattle.std.specs.Map.{keys_of}
use Rattle.std.specs.Ordering.{eq_by_cmp, is_eq}
use Rattle.std.proofs.lemmas.Int.{ints}
use Rattle.std.proofs.lemmas.Bool.{cases_eq, eq-eqb, ne_eqb}
use Rattle.std.proofs.lemmas.Bool.Decides.{Decides-int_eq}
use Rattle.std.proofs.lemmas.List.Elements.{recursion_from_All}
use Rattle.std.proofs.Math.IntN.{*ℤ_comm, zero-*ℤ}
use Rattle.items.specs.Gives.{◌>>=◌}
use Rattle.whole_numbers.specs.declared.wide.Wide as Step
use Rattle.whole_numbers.proofs.Ring.{ring, ≤ℤ-*ℤ, *ℤ-≤ℤ, *ℤ_assoc, one-*ℤ, neg_ℤ-*ℤ}
use Rattle.linear_terms.specs.declared.col.Col.{Col}
use Rattle.linear_terms.specs.declared.row.Kind.{Kind}
use Rattle.linear_terms.specs.declared.row.Kind.TheVariants.{AtMost, Equal}
use Rattle.linear_terms.specs.declared.row.Row.{Row}
use Rattle.linear_terms.specs.Mono.{mono_cmp}
use Rattle.linear_terms.specs.Polynomial.{Polynomial, coefficient_in, IsCanonical}
use Rattle.linear_terms.specs.Row.{IsWithin, is_within}
use Rattle.farkas_check.specs.Columns.{columns, monos_of}
use Rattle.linear_terms.specs.Row.{AreCanonical}
use Rattle.farkas_check.specs.Meaning.{terms_at}
use Rattle.farkas_check.specs.Multiples.{number_at as coefficient_at, constant_in}
use Rattle.farkas_check.specs.Parts.{and_then}
use Rattle.farkas_check.specs.Points.{ratio_at, ratio_value, meets}
use Rattle.farkas_check.specs.Ratios.{Fraction, whole}
use Rattle.farkas_check.specs.Tested.{tested_no}
use Rattle.farkas_check.proofs.Farkas.{bool_ok}
use Rattle.farkas_check.proofs.PointValues.{Stands, Stands-whole, ratio_value-stands}
use Rattle.farkas_check.proofs.Spreads.{itself, spread, terms_at-spread, AreAmong, rows_among}
use Rattle.farkas_check.proofs.Walks.{IsBefore, IsOrdered, IsOrdered-columns}
use Rattle.simplex.specs.declared.tableau.Tableau.{Tableau}
use Rattle.simplex.specs.Exchange.{numbers_of, choices_of, IsTableauOf}
use Rattle.farkas_check.specs.Frames.{sum_below}
use Rattle.simplex.specs.Raise.{Framed, enters_at}
use Rattle.simplex.specs.Rows.{kinds_of, kind_at, framed_tableau, frame_of_rows}
use Rattle.simplex.specs.Search.{IsMet, CornerAt, IsCornerOf}
use Rattle.simplex.proofs.Certificates.{le_true, each_of, framed-column, framed-constant, sum_below-first}
use Rattle.simplex.proofs.Corners.{none, single, over, share, share-over, part, moved, moved-solves}
use Rattle.simplex.proofs.Eliminations.{choose_apart}
use Rattle.simplex.proofs.Exchanges.{vanishes, product}
use Rattle.simplex.proofs.RowTableaux.{numbers-unit, kinds-length}
use Rattle.simplex.proofs.Sums.{sum_below-same}

-- ---- rows by places

pub at_row : (number : Row → ℤ) (rows : List Row) (l : ℕ) (row : Row) → slice_get rows l ≡ Some row → each_of number rows l ≡ number row
at_row number [] l row e = cc
at_row number (r ∷ rows) zero row e = let same : r ≡ row = cc in ap number same
at_row number (r ∷ rows) (suc l) row e = at_row number rows l row e

pub kind_row : (rows : List Row) (l : ℕ) (row : Row) → slice_get rows l ≡ Some row → kind_at (kinds_of rows) l ≡ row.kind
kind_row [] l row e = cc
kind_row (r ∷ rows) zero row e = let same : r ≡ row = cc in ap (λ (x : Row). x.kind) same
kind_row (r ∷ rows) (suc l) row e = kind_row rows l row e

pub row_within : (rows : List Row) (l : ℕ) (row : Row) → slice_get rows l ≡ Some row → l < length rows
row_within [] l row e = cc
row_within (r ∷ rows) zero row e = omega arith
row_within (r ∷ rows) (suc l) row e = let h : l < length rows = row_within rows l row e in omega (arith, h)

pub all_at : (P : Row → Type 0) (rows : List Row) (l : ℕ) (row : Row) → AllByRecursion P rows → slice_get rows l ≡ Some row → P row
all_at P [] l row h e = cc
all_at P (r ∷ rows) zero row h e = let same : r ≡ row = cc in subst P same h.0
all_at P (r ∷ rows) (suc l) row h e = all_at P rows l row h.1 e

pub each_row : (P : Row → Type 0) (rows : List Row) → ((l : ℕ) (row : Row) → slice_get rows l ≡ Some row → P row) → AllByRecursion P rows
each_row P [] f = tt
each_row P (row ∷ rows) f = (f 0 row refl, each_row P rows (λ l r e. f (suc l) r e))

-- ---- denominators

pub over-positive : (n : ℕ) (d : ℕ → ℤ) → ((k : ℕ) → k < n → pos 0 <ℤ d k) → pos 0 <ℤ over n d
over-positive zero d h = omega (arith, ints)
over-positive (suc n) d h = product (over n d) (d n) (over-positive n d (λ k g. h k (omega arith))) (h n (omega arith))

pub share-positive : (n : ℕ) (d : ℕ → ℤ) (i : ℕ) → ((k : ℕ) → k < n → pos 0 <ℤ d k) → pos 0 <ℤ share n d i
share-positive zero d i h = omega (arith, ints)
share-positive (suc n) d i h = go (nat_eq i n) (share-positive n d i (λ k g. h k (omega arith)))
  where
    go : (b : Bool) → pos 0 <ℤ share n d i → pos 0 <ℤ cond b (over n d) (share n d i *ℤ d n)
    go true ih = over-positive n d (λ k g. h k (omega arith))
    go false ih = product (share n d i) (d n) ih (h n (omega arith))

-- ---- who chooses a column

pub find_choice : (n : ℕ) (chosen : ℕ → ℕ) (j : ℕ) → ((k : ℕ) × ((k < n) × (chosen k ≡ j))) ⊎ ((k : ℕ) → k < n → chosen k ≢ j)
find_choice zero chosen j = inr (λ k h. absurd (omega (arith, h)))
find_choice (suc n) chosen j = ⊎_elim (λ (e : chosen n ≡ j). inl (n, (omega arith, e))) (λ other. ⊎_elim (λ (found : (k : ℕ) × ((k < n) × (chosen k ≡ j))). inl (found.0, (let h : found.0 < n = found.1.0 in omega (arith, h), found.1.1)))
    (λ no_one. inr (λ k h e. ⊎_elim (λ (same : k ≡ n). other (ap chosen (sym same) ∙ e)) (λ apart. no_one k (omega (arith, h, apart)) e) (cases_eq k n))) (find_choice n chosen j)) (cases_eq (chosen n) j)

pub part-none : (n : ℕ) (chosen : ℕ → ℕ) (value : ℕ → ℤ) (j : ℕ) → ((k : ℕ) → k < n → chosen k ≢ j) → sum_below n (λ k. part chosen value j k) ≡ pos 0
part-none n chosen value j h = none n (λ k. part chosen value j k) (λ k g. ap (λ (b : Bool). cond b (value k) (pos 0)) (ne_eqb (chosen k) j (h k g)))

pub part-one : (n : ℕ) (chosen : ℕ → ℕ) (value : ℕ → ℤ) (j k : ℕ) → k < n → chosen k ≡ j → ((i : ℕ) → i < n → i ≢ k → chosen i ≢ j) → sum_below n (λ k. part chosen value j k) ≡ value k
part-one n chosen value j k h is others =
    single n (λ k. part chosen value j k) k h (λ i g other. ap (λ (b : Bool). cond b (value i) (pos 0)) (ne_eqb (chosen i) j (others i g other)))
    ∙ ap (λ (b : Bool). cond b (value k) (pos 0)) (eq-eqb (chosen k) j is)

-- ---- the number at a column

pub stands-at : (frame : Framed) (t : Tableau) (constants j : ℕ) (r : Fraction) → IsTableauOf frame.units frame.frame t → j ≢ constants → CornerAt t constants j r
    → Stands r (moved (length t.lines) (numbers_of t) (choices_of t) constants j) (over (length t.lines) (λ k. numbers_of t k (choices_of t k)))
stands-at frame t constants j r s apart c = ⊎_elim (λ found. one found.0 found.1.0 found.1.1) free (find_choice m (choices_of t) j)
  where
    m : ℕ
    m = length t.lines

    d : ℕ → ℤ
    d k = numbers_of t k (choices_of t k)

    value : ℕ → ℤ
    value k = numbers_of t k constants *ℤ share (length t.lines) (λ k. numbers_of t k (choices_of t k)) k

    moved_is : moved (length t.lines) (numbers_of t) (choices_of t) constants j ≡ pos 0 -ℤ sum_below (length t.lines) (λ k. part (choices_of t) value j k)
    moved_is = ap (λ (b : Bool). cond b (over (length t.lines) d) (pos 0) -ℤ sum_below (length t.lines) (λ k. part (choices_of t) value j k)) (ne_eqb constants j (λ e. apart (sym e)))

    one : (k : ℕ) → k < length t.lines → choices_of t k ≡ j → Stands r (moved (length t.lines) (numbers_of t) (choices_of t) constants j) (over (length t.lines) (λ k. numbers_of t k (choices_of t k)))
    one k h is = record {
      same =
          ap (λ z. r.num *ℤ z) (sym (share-over (length t.lines) d k h) ∙ ap (λ (i : ℕ). numbers_of t k i *ℤ share (length t.lines) d k) is)
          ∙ sym (*ℤ_assoc r.num (numbers_of t k j) (share (length t.lines) d k))
          ∙ ap (λ z. z *ℤ share (length t.lines) d k) (c.chosen k h is)
          ∙ turn (numbers_of t k constants) r.den (share (length t.lines) d k)
          ∙ ap (λ z. (pos 0 -ℤ z) *ℤ r.den) (sym (part-one (length t.lines) (choices_of t) value j k h is (λ i g other e. choose_apart frame t i k s g h other (e ∙ sym is))))
          ∙ ap (λ z. z *ℤ r.den) (sym moved_is);
      positive = c.positive;
    }
      where
        minus : (z : ℤ) → z *ℤ negsuc 0 ≡ neg_ℤ z
        minus z = omega (arith, ints)

        from_zero : (z : ℤ) → neg_ℤ z ≡ pos 0 -ℤ z
        from_zero z = omega (arith, ints)

        swap : (a q s : ℤ) → a *ℤ q *ℤ s ≡ a *ℤ s *ℤ q
        swap a q s = simp ring (omega (arith, ints))

        turn : (a q s : ℤ) → a *ℤ negsuc 0 *ℤ q *ℤ s ≡ (pos 0 -ℤ a *ℤ s) *ℤ q
        turn a q s =
            ap (λ z. z *ℤ q *ℤ s) (minus a) ∙ ap (λ z. z *ℤ s) (neg_ℤ-*ℤ a q) ∙ neg_ℤ-*ℤ (a *ℤ q) s ∙ ap neg_ℤ (swap a q s)
            ∙ sym (neg_ℤ-*ℤ (a *ℤ s) q) ∙ ap (λ z. z *ℤ q) (from_zero (a *ℤ s))

    free : ((k : ℕ) → k < length t.lines → choices_of t k ≢ j) → Stands r (moved (length t.lines) (numbers_of t) (choices_of t) constants j) (over (length t.lines) (λ k. numbers_of t k (choices_of t k)))
    free no_one = record {
      same = ap (λ z. z *ℤ over (length t.lines) d) (c.free no_one) ∙ zero-*ℤ (over (length t.lines) d) ∙ sym (zero-*ℤ r.den)
          ∙ ap (λ z. z *ℤ r.den) (sym (moved_is ∙ ap (λ z. pos 0 -ℤ z) (part-none (length t.lines) (choices_of t) value j no_one)));
      positive = c.positive;
    }

-- ---- numbers of monomials

abbrev pub numbered : List (List Col) → (ℕ → ℤ) → List Col → ℤ
numbered [] f m = pos 0
numbered (c ∷ cs) f m = cond (eq_by_cmp mono_cmp c m) (f 0) (numbered cs (λ j. f (suc j)) m)

pub stands_each : (cs : List (List Col)) (point : List Fraction) (f : ℕ → ℤ) (d : ℤ) (m : List Col) → length point ≡ length cs → ((j : ℕ) → j < length cs → Stands (get_or point j (whole (pos 0))) (f j) d) → Stands (ratio_at cs point m) (numbered cs f m) d
stands_each [] point f d m h s = subst (λ z. Stands (whole (pos 0)) z d) (zero-*ℤ d) (Stands-whole (pos 0) d)
stands_each (c ∷ cs) [] f d m h s = absurd (omega (arith, h))
stands_each (c ∷ cs) (r ∷ rs) f d m h s = go (eq_by_cmp mono_cmp c m) (s 0 (omega arith)) (stands_each cs rs (λ j. f (suc j)) d m (omega (arith, h)) (λ j g. s (suc j) (omega (arith, g))))
  where
    go : (b : Bool) → Stands r (f 0) d → Stands (ratio_at cs rs m) (numbered cs (λ j. f (suc j)) m) d → Stands (cond b r (ratio_at cs rs m)) (cond b (f 0) (numbered cs (λ j. f (suc j)) m)) d
    go true a b = a
    go false a b = b

spread_agree : (g x y : List Col → ℤ) (cs : List (List Col)) → AllByRecursion (λ c. x c ≡ y c) cs → spread g x cs ≡ spread g y cs
spread_agree g x y [] h = refl
spread_agree g x y (c ∷ cs) h = ap (λ z. g c *ℤ z +ℤ spread g x cs) h.0 ∙ ap (λ z. g c *ℤ y c +ℤ z) (spread_agree g x y cs h.1)

later_ones : (c : List Col) (ds : List (List Col)) (a : ℤ) (f : List Col → ℤ) → IsBefore c ds → AllByRecursion (λ e. cond (eq_by_cmp mono_cmp c e) a (f e) ≡ f e) ds
later_ones c [] a f h = tt
later_ones c (e ∷ ds) a f h = (ap (λ (o : _). cond (is_eq o) a (f e)) h.0, later_ones c ds a f h.1)

pub spread-numbered : (g : List Col → ℤ) (cs : List (List Col)) (f : ℕ → ℤ) → IsOrdered cs → spread g (numbered cs f) cs ≡ sum_below (length cs) (λ j. g (get_or cs j []) *ℤ f j)
spread-numbered g [] f h = refl
spread-numbered g (c ∷ cs) f h =
    ap (λ (b : Bool). g c *ℤ cond b (f 0) (numbered cs (λ j. f (suc j)) c) +ℤ spread g (numbered (c ∷ cs) f) cs) (itself c)
    ∙ ap (λ z. g c *ℤ f 0 +ℤ z) (spread_agree g (numbered (c ∷ cs) f) (numbered cs (λ j. f (suc j))) cs (later_ones c cs (f 0) (numbered cs (λ j. f (suc j))) h.0) ∙ spread-numbered g cs (λ j. f (suc j)) h.1)
    ∙ sym (sum_below-first (length cs) (λ j. g (get_or (c ∷ cs) j []) *ℤ f j))

-- ---- sums in two parts

pub sum_below-plus : (a b : ℕ) (f : ℕ → ℤ) → sum_below (a + b) f ≡ sum_below a f +ℤ sum_below b (λ k. f (a + k))
sum_below-plus a zero f = (let e : a + 0 ≡ a = omega arith in ap (λ n. sum_below n f) e) ∙ right (sum_below a f)
  where
    right : (z : ℤ) → z ≡ z +ℤ pos 0
    right z = omega (arith, ints)
sum_below-plus a (suc b) f = (let e : a + suc b ≡ suc (a + b) = omega arith in ap (λ n. sum_below n f) e) ∙ ap (λ z. z +ℤ f (a + b)) (sum_below-plus a b f) ∙ group (sum_below a f) (sum_below b (λ k. f (a + k))) (f (a + b))
  where
    group : (x y z : ℤ) → x +ℤ y +ℤ z ≡ x +ℤ (y +ℤ z)
    group x y z = omega (arith, ints)

-- ---- signs

pub within_back : (kind : Kind) (r : Fraction) (x d : ℤ) → pos 0 <ℤ d → Stands r x d → IsWithin kind x → is_within kind r.num ≡ true
within_back AtMost r x d p s h =
    le_true r.num (pos 0) (*ℤ-≤ℤ r.num (pos 0) d p (chain (r.num *ℤ d) (x *ℤ r.den) (pos 0 *ℤ r.den) (pos 0 *ℤ d) s.same (≤ℤ-*ℤ x (pos 0) r.den (weak r.den s.positive) h) (zero-*ℤ r.den) (zero-*ℤ d)))
  where
    weak : (z : ℤ) → pos 0 <ℤ z → pos 0 ≤ℤ z
    weak z h = omega (arith, ints)

    chain : (a b c e : ℤ) → a ≡ b → b ≤ℤ c → c ≡ pos 0 → e ≡ pos 0 → a ≤ℤ e
    chain a b c e f g h k = omega (arith, ints)
within_back Equal r x d p s h = (Decides-int_eq r.num (pos 0)).1 (vanishes d r.num p (*ℤ_comm d r.num ∙ s.same ∙ ap (λ z. z *ℤ r.den) h ∙ zero-*ℤ r.den))

pub meets-honest : (value : Polynomial → Result Fraction Step.Wide) (rows : List Row) → AllByRecursion (λ (row : Row). (v : Fraction) → value row.poly ≡ Ok v → is_within row.kind v.num ≡ true) rows → (b : Bool) → meets value rows ≡ Ok b → b ≡ true
meets-honest value [] h b e = cc
meets-honest value (row ∷ rows) h b e = after (value row.poly) refl e (λ g. meets-honest value rows h.1 b g)
  where
    holds : (c : Bool) → c ≡ true → and_then (bool_ok c) (meets value rows) ≡ Ok b → (meets value rows ≡ Ok b → b ≡ true) → b ≡ true
    holds true f g ih = ih g
    holds false f g ih = cc

    after : (r : Result Fraction Step.Wide) → value row.poly ≡ r → and_then (r >>= λ v. bool_ok (is_within row.kind v.num)) (meets value rows) ≡ Ok b → (meets value rows ≡ Ok b → b ≡ true) → b ≡ true
    after (Ok v) f g ih = holds (is_within row.kind v.num) (h.0 v f) g ih
    after (Err w) f g ih = cc

-- ---- the test

pub no-honest : (rows : List Row) (t : Tableau) (enters : List Bool) (point : List Fraction) (b : Bool) → AreCanonical rows → IsMet (frame_of_rows (columns rows []) rows) (length (columns rows [])) (kinds_of rows) enters t → IsCornerOf t (length (columns rows [])) (length (columns rows [])) point → tested_no rows point ≡ Ok b → b ≡ true
no-honest rows t enters point b canonical k c e = after_length (length point == length (columns rows [])) (eq-eqb (length point) (length (columns rows [])) c.each) e
  where
    n : ℕ
    n = length (columns rows [])

    s : IsTableauOf (length (columns rows []) + 1) (numbers_of (framed_tableau (columns rows []) rows)) t
    s = k.placed.marked.sized.tableau

    many : length t.lines ≡ length rows
    many = sym k.placed.marked.sized.many ∙ kinds-length rows

    d : ℕ → ℤ
    d i = numbers_of t i (choices_of t i)

    whole_over : ℤ
    whole_over = over (length t.lines) (λ i. numbers_of t i (choices_of t i))

    shift : ℕ → ℤ
    shift j = moved (length t.lines) (numbers_of t) (choices_of t) (length (columns rows [])) j

    value : ℕ → ℤ
    value i = numbers_of t i (length (columns rows [])) *ℤ share (length t.lines) (λ i. numbers_of t i (choices_of t i)) i

    over_above : pos 0 <ℤ over (length t.lines) (λ i. numbers_of t i (choices_of t i))
    over_above = over-positive (length t.lines) d (λ i h. s.is.own i h)

    each : (m : List Col) → Stands (ratio_at (columns rows []) point m) (numbered (columns rows []) shift m) (over (length t.lines) (λ i. numbers_of t i (choices_of t i)))
    each m = stands_each (columns rows []) point shift (over (length t.lines) d) m c.each (λ j h. stands-at (frame_of_rows (columns rows []) rows) t (length (columns rows [])) j (get_or point j (whole (pos 0))) s (λ same. absurd (omega (arith, h, same))) (c.same j h))

    -- what the slack of a row is, times the common denominator and with the sign turned
    slack : ℕ → ℤ
    slack l = sum_below (length t.lines) (λ i. part (choices_of t) value (length (columns rows []) + 1 + l) i)

    slack_within : (l : ℕ) (kind : Kind) → l < length t.lines → kind_at (kinds_of rows) l ≡ kind → IsWithin kind (slack l)
    slack_within l kind h is = ⊎_elim (λ found. chosen found.0 found.1.0 found.1.1 kind is) (λ no_one. free kind (part-none (length t.lines) (choices_of t) value (length (columns rows []) + 1 + l) no_one)) (find_choice (length t.lines) (choices_of t) (length (columns rows []) + 1 + l))
      where
        free : (kind : Kind) → slack l ≡ pos 0 → IsWithin kind (slack l)
        free AtMost e = omega (arith, ints, e)
        free Equal e = e

        chosen : (i : ℕ) → i < length t.lines → choices_of t i ≡ length (columns rows []) + 1 + l → (kind : Kind) → kind_at (kinds_of rows) l ≡ kind → IsWithin kind (slack l)
        chosen i g choice kind is = with_slack (part-one (length t.lines) (choices_of t) value (length (columns rows []) + 1 + l) i g choice (λ o p other e. choose_apart (frame_of_rows (columns rows []) rows) t o i s p g other (e ∙ sym choice))) kind is
          where
            with_slack : slack l ≡ value i → (kind : Kind) → kind_at (kinds_of rows) l ≡ kind → IsWithin kind (slack l)
            with_slack e AtMost is =
                chain (slack l) (value i) (pos 0 *ℤ share (length t.lines) d i) e
                (≤ℤ-*ℤ (numbers_of t i (length (columns rows []))) (pos 0) (share (length t.lines) d i) (weak (share (length t.lines) d i) (share-positive (length t.lines) d i (λ o p. s.is.own o p)))
                (k.placed.corner i g (ap (enters_at enters) choice ∙ k.kept l (subst (λ (z : ℕ). l < z) many h) is)))
                (zero-*ℤ (share (length t.lines) d i))
              where
                weak : (z : ℤ) → pos 0 <ℤ z → pos 0 ≤ℤ z
                weak z h = omega (arith, ints)

                chain : (x y z : ℤ) → x ≡ y → y ≤ℤ z → z ≡ pos 0 → x ≤ℤ pos 0
                chain x y z e f g = omega (arith, ints)
            with_slack e Equal is = e ∙ ap (λ z. z *ℤ share (length t.lines) d i) (k.placed.marked.fixed i l g h choice is).corner ∙ zero-*ℤ (share (length t.lines) d i)

    -- the row's value there is that slack
    row_value : (l : ℕ) (row : Row) → slice_get rows l ≡ Some row → terms_at (numbered (columns rows []) shift) row.poly.terms +ℤ row.poly.rest *ℤ over (length t.lines) (λ i. numbers_of t i (choices_of t i)) ≡ slack l
    row_value l row here = level (terms_at (numbered (columns rows []) shift) row.poly.terms) (row.poly.rest *ℤ over (length t.lines) d) (slack l) balance
      where
        inside : l < length rows
        inside = row_within rows l row here

        in_t : l < length t.lines
        in_t = subst (λ (z : ℕ). l < z) (sym many) inside

        f : ℕ → ℤ
        f j = numbers_of (framed_tableau (columns rows []) rows) l j *ℤ shift j

        terms_are : terms_at (numbered (columns rows []) shift) row.poly.terms ≡ sum_below (length (columns rows [])) f
        terms_are =
            terms_at-spread (numbered (columns rows []) shift) (columns rows []) row.poly.terms (IsOrdered-columns (monos_of rows [])) (all_at (λ (r : Row). IsCanonical r.poly.terms) rows l row (recursion_from_All (λ (r : Row). IsCanonical r.poly.terms) rows canonical) here) (all_at (λ (r : Row). AreAmong (keys_of r.poly.terms) (columns rows [])) rows l row (rows_among rows []) here)
            ∙ spread-numbered (coefficient_in row.poly.terms) (columns rows []) shift (IsOrdered-columns (monos_of rows []))
            ∙ sum_below-same (length (columns rows [])) (λ j. coefficient_in row.poly.terms (get_or (columns rows []) j []) *ℤ shift j) f
            (λ j h. ap (λ z. z *ℤ shift j) (sym (framed-column (columns rows []) rows j l h ∙ at_row (coefficient_at (get_or (columns rows []) j [])) rows l row here)))

        constant_is : f (length (columns rows [])) ≡ row.poly.rest *ℤ over (length t.lines) d
        constant_is =
            ap (λ z. z *ℤ shift (length (columns rows []))) (framed-constant (columns rows []) rows l ∙ at_row constant_in rows l row here)
            ∙ ap (λ z. row.poly.rest *ℤ z)
            (ap (λ (b : Bool). cond b (over (length t.lines) d) (pos 0) -ℤ sum_below (length t.lines) (λ i. part (choices_of t) value (length (columns rows [])) i)) (eq-eqb (length (columns rows [])) (length (columns rows [])) refl)
            ∙ ap (λ z. over (length t.lines) d -ℤ z) (part-none (length t.lines) (choices_of t) value (length (columns rows [])) k.placed.marked.sized.apart) ∙ alone (over (length t.lines) d))
          where
            alone : (z : ℤ) → z -ℤ pos 0 ≡ z
            alone z = omega (arith, ints)

        units_are : sum_below (length t.lines) (λ i. f (length (columns rows []) + 1 + i)) ≡ pos 0 -ℤ slack l
        units_are =
            single (length t.lines) (λ i. f (length (columns rows []) + 1 + i)) l in_t
            (λ i h other. ap (λ z. z *ℤ shift (length (columns rows []) + 1 + i)) (numbers-unit (columns rows []) rows l i inside (subst (λ (z : ℕ). i < z) many h) ∙ ap (λ (b : Bool). cond b (pos 1) (pos 0)) (ne_eqb i l other)) ∙ zero-*ℤ (shift (length (columns rows []) + 1 + i)))
            ∙ ap (λ z. z *ℤ shift (length (columns rows []) + 1 + l)) (numbers-unit (columns rows []) rows l l inside inside ∙ ap (λ (b : Bool). cond b (pos 1) (pos 0)) (eq-eqb l l refl))
            ∙ one-*ℤ (shift (length (columns rows []) + 1 + l))
            ∙ ap (λ (b : Bool). cond b (over (length t.lines) d) (pos 0) -ℤ slack l) (ne_eqb (length (columns rows [])) (length (columns rows []) + 1 + l) (λ same. absurd (omega (arith, same))))

        balance : terms_at (numbered (columns rows []) shift) row.poly.terms +ℤ row.poly.rest *ℤ over (length t.lines) d +ℤ (pos 0 -ℤ slack l) ≡ pos 0
        balance =
            ap (λ z. z +ℤ row.poly.rest *ℤ over (length t.lines) d +ℤ (pos 0 -ℤ slack l)) terms_are
            ∙ ap (λ z. sum_below (length (columns rows [])) f +ℤ z +ℤ (pos 0 -ℤ slack l)) (sym constant_is)
            ∙ ap (λ z. sum_below (length (columns rows [])) f +ℤ f (length (columns rows [])) +ℤ z) (sym units_are)
            ∙ ap (λ z. z +ℤ sum_below (length t.lines) (λ i. f (length (columns rows []) + 1 + i))) (let e : suc (length (columns rows [])) ≡ length (columns rows []) + 1 = omega arith in ap (λ z. sum_below z f) e)
            ∙ sym (sum_below-plus (length (columns rows []) + 1) (length t.lines) f)
            ∙ moved-solves (length t.lines) (length (columns rows []) + 1) (length (columns rows []) + 1 + length t.lines) (numbers_of (framed_tableau (columns rows []) rows)) (numbers_of t) (choices_of t) (length (columns rows [])) s.is (omega arith) (λ i h. s.within i h) l in_t

        level : (x y z : ℤ) → x +ℤ y +ℤ (pos 0 -ℤ z) ≡ pos 0 → x +ℤ y ≡ z
        level x y z e = omega (arith, ints)

    row_honest : (l : ℕ) (row : Row) → slice_get rows l ≡ Some row → (v : Fraction) → ratio_value (ratio_at (columns rows []) point) row.poly ≡ Ok v → is_within row.kind v.num ≡ true
    row_honest l row here v f =
        within_back row.kind v (terms_at (numbered (columns rows []) shift) row.poly.terms +ℤ row.poly.rest *ℤ over (length t.lines) d) (over (length t.lines) d) over_above
        (ratio_value-stands (ratio_at (columns rows []) point) (numbered (columns rows []) shift) (over (length t.lines) d) row.poly v each f)
        (subst (λ z. IsWithin row.kind z) (sym (row_value l row here)) (slack_within l row.kind (subst (λ (z : ℕ). l < z) (sym many) (row_within rows l row here)) (kind_row rows l row here)))

    after_length : (q : Bool) → q ≡ true → and_then (bool_ok q) (meets (ratio_value (ratio_at (columns rows []) point)) rows) ≡ Ok b → b ≡ true
    after_length true f g = meets-honest (ratio_value (ratio_at (columns rows []) point)) rows (each_row (λ (row : Row). (v : Fraction) → ratio_value (ratio_at (columns rows []) point) row.poly ≡ Ok v → is_within row.kind v.num ≡ true) rows row_honest) b g
    after_length false f g = cc
