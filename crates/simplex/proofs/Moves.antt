-- What a row is worth where one column has moved: minus what its slack is worth.
use Rattle.std.proofs.Common.{◌≡◌, ◌≢◌, ℕ, suc, ◌+◌, ◌<◌, Bool, cond, List, [], length, get_or, refl, sym, ap, subst, ◌∙◌, arith, ⊎_elim, ℤ, pos, ◌+ℤ◌, ◌-ℤ◌, ◌*ℤ◌, ◌≤ℤ◌, ◌<ℤ◌}
use Rattle.std.specs.Prelude.{slice_get, Some}
use Rattle.std.specs.Map.{keys_of}
use Rattle.std.proofs.lemmas.Int.{ints}
use Rattle.std.proofs.lemmas.Bool.{eq-eqb, ne_eqb}
use Rattle.std.proofs.Math.IntN.{zero-*ℤ}
use Rattle.whole_numbers.proofs.Ring.{≤ℤ-*ℤ, one-*ℤ}
use Rattle.linear_terms.specs.declared.col.Col.{Col}
use Rattle.linear_terms.specs.declared.row.Kind.{Kind}
use Rattle.linear_terms.specs.declared.row.Kind.TheVariants.{AtMost, Equal}
use Rattle.linear_terms.specs.declared.row.Row.{Row}
use Rattle.linear_terms.specs.Polynomial.{coefficient_in, IsCanonical}
use Rattle.linear_terms.specs.Row.{IsWithin}
use Rattle.farkas_check.specs.Meaning.{terms_at}
use Rattle.farkas_check.specs.Multiples.{number_at as coefficient_at, constant_in}
use Rattle.farkas_check.proofs.Spreads.{terms_at-spread, AreAmong}
use Rattle.farkas_check.proofs.Walks.{IsOrdered}
use Rattle.simplex.specs.declared.tableau.Tableau.{Tableau}
use Rattle.simplex.specs.Exchange.{numbers_of, choices_of, IsTableauOf}
use Rattle.farkas_check.specs.Frames.{sum_below}
use Rattle.simplex.specs.Raise.{Framed, enters_at}
use Rattle.simplex.specs.Rows.{kind_at, framed_tableau}
use Rattle.simplex.specs.Search.{IsMet}
use Rattle.simplex.proofs.Certificates.{framed-column, framed-constant}
use Rattle.simplex.proofs.Corners.{single, over, share, part, moved, moved-solves}
use Rattle.simplex.proofs.Eliminations.{choose_apart}
use Rattle.simplex.proofs.RowTableaux.{numbers-unit}
use Rattle.simplex.proofs.Sums.{sum_below-same}
use Rattle.simplex.proofs.RowCorners.{numbered, spread-numbered, sum_below-plus, at_row, row_within, find_choice, part-none, part-one, share-positive}

-- the numbers at all columns where one has moved by the common denominator
abbrev pub shift : Tableau → ℕ → ℕ → ℤ
shift t c j = moved (length t.lines) (numbers_of t) (choices_of t) c j

pub moved_row : (cs : List (List Col)) (rows : List Row) (t : Tableau) (c l : ℕ) (row : Row) → IsOrdered cs → IsCanonical row.poly.terms → AreAmong (keys_of row.poly.terms) cs → length t.lines ≡ length rows → IsTableauOf (length cs + 1) (numbers_of (framed_tableau cs rows)) t → c < length cs + 1 + length t.lines → slice_get rows l ≡ Some row
    → terms_at (numbered cs (shift t c)) row.poly.terms +ℤ row.poly.rest *ℤ shift t c (length cs) ≡ pos 0 -ℤ shift t c (length cs + 1 + l)
moved_row cs rows t c l row ordered canonical among many s within here = level (terms_at (numbered cs (shift t c)) row.poly.terms) (row.poly.rest *ℤ shift t c (length cs)) (shift t c (length cs + 1 + l)) balance
  where
    inside : l < length rows
    inside = row_within rows l row here

    in_t : l < length t.lines
    in_t = subst (λ (z : ℕ). l < z) (sym many) inside

    f : ℕ → ℤ
    f j = numbers_of (framed_tableau cs rows) l j *ℤ shift t c j

    terms_are : terms_at (numbered cs (shift t c)) row.poly.terms ≡ sum_below (length cs) f
    terms_are =
        terms_at-spread (numbered cs (shift t c)) cs row.poly.terms ordered canonical among
        ∙ spread-numbered (coefficient_in row.poly.terms) cs (shift t c) ordered
        ∙ sum_below-same (length cs) (λ j. coefficient_in row.poly.terms (get_or cs j []) *ℤ shift t c j) f
        (λ j h. ap (λ z. z *ℤ shift t c j) (sym (framed-column cs rows j l h ∙ at_row (coefficient_at (get_or cs j [])) rows l row here)))

    constant_is : f (length cs) ≡ row.poly.rest *ℤ shift t c (length cs)
    constant_is = ap (λ z. z *ℤ shift t c (length cs)) (framed-constant cs rows l ∙ at_row constant_in rows l row here)

    units_are : sum_below (length t.lines) (λ i. f (length cs + 1 + i)) ≡ shift t c (length cs + 1 + l)
    units_are =
        single (length t.lines) (λ i. f (length cs + 1 + i)) l in_t
        (λ i h other. ap (λ z. z *ℤ shift t c (length cs + 1 + i)) (numbers-unit cs rows l i inside (subst (λ (z : ℕ). i < z) many h) ∙ ap (λ (b : Bool). cond b (pos 1) (pos 0)) (ne_eqb i l other)) ∙ zero-*ℤ (shift t c (length cs + 1 + i)))
        ∙ ap (λ z. z *ℤ shift t c (length cs + 1 + l)) (numbers-unit cs rows l l inside inside ∙ ap (λ (b : Bool). cond b (pos 1) (pos 0)) (eq-eqb l l refl))
        ∙ one-*ℤ (shift t c (length cs + 1 + l))

    balance : terms_at (numbered cs (shift t c)) row.poly.terms +ℤ row.poly.rest *ℤ shift t c (length cs) +ℤ shift t c (length cs + 1 + l) ≡ pos 0
    balance =
        ap (λ z. z +ℤ row.poly.rest *ℤ shift t c (length cs) +ℤ shift t c (length cs + 1 + l)) terms_are
        ∙ ap (λ z. sum_below (length cs) f +ℤ z +ℤ shift t c (length cs + 1 + l)) (sym constant_is)
        ∙ ap (λ z. sum_below (length cs) f +ℤ f (length cs) +ℤ z) (sym units_are)
        ∙ ap (λ z. z +ℤ sum_below (length t.lines) (λ i. f (length cs + 1 + i))) (let e : suc (length cs) ≡ length cs + 1 = omega arith in ap (λ z. sum_below z f) e)
        ∙ sym (sum_below-plus (length cs + 1) (length t.lines) f)
        ∙ moved-solves (length t.lines) (length cs + 1) (length cs + 1 + length t.lines) (numbers_of (framed_tableau cs rows)) (numbers_of t) (choices_of t) c s.is within (λ i h. s.within i h) l in_t

    level : (x y z : ℤ) → x +ℤ y +ℤ z ≡ pos 0 → x +ℤ y ≡ pos 0 -ℤ z
    level x y z e = omega (arith, ints, e)

-- what a column that has not moved is worth: minus its line's number, where a line chooses it
pub shift_chosen : (frame : Framed) (t : Tableau) (c j k : ℕ) → IsTableauOf frame.units frame.frame t → c ≢ j → k < length t.lines → choices_of t k ≡ j → shift t c j ≡ pos 0 -ℤ numbers_of t k c *ℤ share (length t.lines) (λ k. numbers_of t k (choices_of t k)) k
shift_chosen frame t c j k s apart h is =
    ap (λ (b : Bool). cond b (over (length t.lines) (λ k. numbers_of t k (choices_of t k))) (pos 0) -ℤ sum_below (length t.lines) (λ k. part (choices_of t) (λ k. numbers_of t k c *ℤ share (length t.lines) (λ k. numbers_of t k (choices_of t k)) k) j k)) (ne_eqb c j apart)
    ∙ ap (λ z. pos 0 -ℤ z) (part-one (length t.lines) (choices_of t) (λ k. numbers_of t k c *ℤ share (length t.lines) (λ k. numbers_of t k (choices_of t k)) k) j k h is (λ i g other e. choose_apart frame t i k s g h other (e ∙ sym is)))

pub shift_free : (t : Tableau) (c j : ℕ) → c ≢ j → ((k : ℕ) → k < length t.lines → choices_of t k ≢ j) → shift t c j ≡ pos 0
shift_free t c j apart none_is =
    ap (λ (b : Bool). cond b (over (length t.lines) (λ k. numbers_of t k (choices_of t k))) (pos 0) -ℤ sum_below (length t.lines) (λ k. part (choices_of t) (λ k. numbers_of t k c *ℤ share (length t.lines) (λ k. numbers_of t k (choices_of t k)) k) j k)) (ne_eqb c j apart)
    ∙ ap (λ z. pos 0 -ℤ z) (part-none (length t.lines) (choices_of t) (λ k. numbers_of t k c *ℤ share (length t.lines) (λ k. numbers_of t k (choices_of t k)) k) j none_is)

-- the column itself, where no line chooses it
pub shift_own : (t : Tableau) (c : ℕ) → ((k : ℕ) → k < length t.lines → choices_of t k ≢ c) → shift t c c ≡ over (length t.lines) (λ k. numbers_of t k (choices_of t k))
shift_own t c none_is =
    ap (λ (b : Bool). cond b (over (length t.lines) (λ k. numbers_of t k (choices_of t k))) (pos 0) -ℤ sum_below (length t.lines) (λ k. part (choices_of t) (λ k. numbers_of t k c *ℤ share (length t.lines) (λ k. numbers_of t k (choices_of t k)) k) c k)) (eq-eqb c c refl)
    ∙ ap (λ z. over (length t.lines) (λ k. numbers_of t k (choices_of t k)) -ℤ z) (part-none (length t.lines) (choices_of t) (λ k. numbers_of t k c *ℤ share (length t.lines) (λ k. numbers_of t k (choices_of t k)) k) c none_is)
    ∙ alone (over (length t.lines) (λ k. numbers_of t k (choices_of t k)))
  where
    alone : (z : ℤ) → z -ℤ pos 0 ≡ z
    alone z = omega (arith, ints)

-- ---- rows at a corner, and along a ray

positive_weak : (z : ℤ) → pos 0 <ℤ z → pos 0 ≤ℤ z
positive_weak z h = omega (arith, ints)

back : (z : ℤ) → pos 0 -ℤ (pos 0 -ℤ z) ≡ z
back z = omega (arith, ints)

pub zero_within : (kind : Kind) (z : ℤ) → z ≡ pos 0 → IsWithin kind z
zero_within AtMost z e = omega (arith, ints, e)
zero_within Equal z e = e

-- a number that is not positive, times one that is positive
pub not_above_times : (a s : ℤ) → a ≤ℤ pos 0 → pos 0 <ℤ s → (a *ℤ s) ≤ℤ pos 0
not_above_times a s h p = chain (a *ℤ s) (pos 0 *ℤ s) (≤ℤ-*ℤ a (pos 0) s (positive_weak s p) h) (zero-*ℤ s)
  where
    chain : (x y : ℤ) → x ≤ℤ y → y ≡ pos 0 → x ≤ℤ pos 0
    chain x y f e = omega (arith, ints, f, e)

share_above : (frame : Framed) (t : Tableau) (i : ℕ) → IsTableauOf frame.units frame.frame t → pos 0 <ℤ share (length t.lines) (λ k. numbers_of t k (choices_of t k)) i
share_above frame t i s = share-positive (length t.lines) (λ k. numbers_of t k (choices_of t k)) i (λ o p. s.is.own o p)

pub corner_within : (over : Framed) (constants : ℕ) (kinds : List Kind) (enters : List Bool) (t : Tableau) (l : ℕ) (kind : Kind) → IsMet over constants kinds enters t → l < over.rows → l < length t.lines → kind_at kinds l ≡ kind → IsWithin kind (pos 0 -ℤ shift t constants (over.units + l))
corner_within over constants kinds enters t l kind m row h is = ⊎_elim (λ found. chosen found.0 found.1.0 found.1.1 kind is) (λ no_one. zero_within kind (pos 0 -ℤ shift t constants (over.units + l)) (ap (λ z. pos 0 -ℤ z) (shift_free t constants (over.units + l) apart no_one))) (find_choice (length t.lines) (choices_of t) (over.units + l))
  where
    s : IsTableauOf over.units over.frame t
    s = m.placed.marked.sized.tableau

    apart : constants ≢ over.units + l
    apart same = let u : over.units ≡ constants + 1 = m.placed.marked.sized.units in absurd (omega (arith, same, u))

    chosen : (i : ℕ) → i < length t.lines → choices_of t i ≡ over.units + l → (kind : Kind) → kind_at kinds l ≡ kind → IsWithin kind (pos 0 -ℤ shift t constants (over.units + l))
    chosen i g choice kind is = subst (λ z. IsWithin kind z) (sym (ap (λ z. pos 0 -ℤ z) (shift_chosen over t constants (over.units + l) i s apart g choice) ∙ back (numbers_of t i constants *ℤ share (length t.lines) (λ k. numbers_of t k (choices_of t k)) i))) (within kind is)
      where
        within : (kind : Kind) → kind_at kinds l ≡ kind → IsWithin kind (numbers_of t i constants *ℤ share (length t.lines) (λ k. numbers_of t k (choices_of t k)) i)
        within AtMost k = not_above_times (numbers_of t i constants) (share (length t.lines) (λ k. numbers_of t k (choices_of t k)) i) (m.placed.corner i g (ap (enters_at enters) choice ∙ m.kept l row k)) (share_above over t i s)
        within Equal k = ap (λ z. z *ℤ share (length t.lines) (λ k. numbers_of t k (choices_of t k)) i) (m.placed.marked.fixed i l g h choice k).corner ∙ zero-*ℤ (share (length t.lines) (λ k. numbers_of t k (choices_of t k)) i)

-- along the ray of a column of the question, where the lines that choose slacks of rows are 0, rows
-- stay level
pub level_ray : (over : Framed) (constants : ℕ) (kinds : List Kind) (enters : List Bool) (t : Tableau) (column l : ℕ) → IsMet over constants kinds enters t → column < constants → l < over.rows → l < length t.lines → ((i : ℕ) → i < length t.lines → choices_of t i ≡ over.units + l → i < over.rows) → pos 0 -ℤ shift t column (over.units + l) ≡ pos 0
level_ray over constants kinds enters t column l m in_question row h rows_only = ⊎_elim (λ found. chosen found.0 found.1.0 found.1.1) (λ no_one. ap (λ z. pos 0 -ℤ z) (shift_free t column (over.units + l) apart no_one)) (find_choice (length t.lines) (choices_of t) (over.units + l))
  where
    s : IsTableauOf over.units over.frame t
    s = m.placed.marked.sized.tableau

    apart : column ≢ over.units + l
    apart same = let u : over.units ≡ constants + 1 = m.placed.marked.sized.units in absurd (omega (arith, same, u, in_question))

    chosen : (i : ℕ) → i < length t.lines → choices_of t i ≡ over.units + l → pos 0 -ℤ shift t column (over.units + l) ≡ pos 0
    chosen i g choice =
        ap (λ z. pos 0 -ℤ z) (shift_chosen over t column (over.units + l) i s apart g choice)
        ∙ back (numbers_of t i column *ℤ share (length t.lines) (λ k. numbers_of t k (choices_of t k)) i)
        ∙ ap (λ z. z *ℤ share (length t.lines) (λ k. numbers_of t k (choices_of t k)) i) (m.placed.flat i (rows_only i g choice) g (omega (arith, choice)) column in_question)
        ∙ zero-*ℤ (share (length t.lines) (λ k. numbers_of t k (choices_of t k)) i)

-- the objective grows along the ray, as its line's number at the column says
pub goal_slope : (over : Framed) (constants : ℕ) (kinds : List Kind) (enters : List Bool) (t : Tableau) (column : ℕ) → IsMet over constants kinds enters t → over.rows < length t.lines → column ≢ over.units + over.rows → pos 0 -ℤ shift t column (over.units + over.rows) ≡ numbers_of t over.rows column *ℤ share (length t.lines) (λ k. numbers_of t k (choices_of t k)) over.rows
goal_slope over constants kinds enters t column m h apart =
    ap (λ z. pos 0 -ℤ z) (shift_chosen over t column (over.units + over.rows) over.rows m.placed.marked.sized.tableau apart h (m.placed.marked.waiting over.rows h (m.placed.marked.sized.goals over.rows (omega arith) h) (m.placed.out over.rows (omega arith) h)))
    ∙ back (numbers_of t over.rows column *ℤ share (length t.lines) (λ k. numbers_of t k (choices_of t k)) over.rows)
