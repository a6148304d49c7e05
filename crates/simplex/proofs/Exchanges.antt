-- An exchange makes a tableau of a tableau.
use Rattle.std.proofs.Common.{◌≡◌, ◌≢◌, ℕ, ◌+◌, ◌<◌, refl, sym, ap, subst, ◌∙◌, arith, ℤ, pos, ◌-ℤ◌, ◌*ℤ◌, ◌≤ℤ◌, ◌<ℤ◌}
use Rattle.std.specs.Prelude.{neg_ℤ}
use Rattle.std.proofs.lemmas.Int.{ints, by_lt_z}
use Rattle.std.proofs.lemmas.Bool.{cases_eq}
use Rattle.std.proofs.Common.{⊎_elim}
use Rattle.std.proofs.Math.IntN.{*ℤ_comm, zero-*ℤ}
use Rattle.whole_numbers.proofs.Ring.{*ℤ_cancel, ≤ℤ-*ℤ, one-*ℤ, neg_ℤ-*ℤ}
use Rattle.simplex.specs.Frames.{IsOwnCombination, IsWholeTableau, IsCleared, IsExchange, IsChanged}
use Rattle.farkas_check.specs.Frames.{sum_below}
use Rattle.simplex.proofs.Sums.{weighted, weighted_multiple}

-- ---- single numbers

pub cancelled : (factor x y : ℤ) → pos 0 <ℤ factor → factor *ℤ x ≡ factor *ℤ y → x ≡ y
cancelled factor x y p e = *ℤ_cancel x y factor p (*ℤ_comm x factor ∙ e ∙ *ℤ_comm factor y)

pub times_zero : (factor : ℤ) → factor *ℤ pos 0 ≡ pos 0
times_zero factor = *ℤ_comm factor (pos 0) ∙ zero-*ℤ factor

pub vanishes : (factor x : ℤ) → pos 0 <ℤ factor → factor *ℤ x ≡ pos 0 → x ≡ pos 0
vanishes factor x p e = cancelled factor x (pos 0) p (e ∙ sym (times_zero factor))

-- what is cleared at a column where the old line is 0 and the pivot too
pub both_zero : (factor new p old q pivot : ℤ) → pos 0 <ℤ factor → factor *ℤ new ≡ p *ℤ old -ℤ q *ℤ pivot → old ≡ pos 0 → pivot ≡ pos 0 → new ≡ pos 0
both_zero factor new p old q pivot positive e f g = vanishes factor new positive (e ∙ rw (f, g, times_zero p, times_zero q) refl)

pub at_pivot : (factor new p q : ℤ) → pos 0 <ℤ factor → factor *ℤ new ≡ p *ℤ q -ℤ q *ℤ p → new ≡ pos 0
at_pivot factor new p q positive e = vanishes factor new positive (e ∙ rw (*ℤ_comm q p) (none (p *ℤ q)))
  where
    none : (z : ℤ) → z -ℤ z ≡ pos 0
    none z = omega (arith, ints)

pub product : (a b : ℤ) → pos 0 <ℤ a → pos 0 <ℤ b → pos 0 <ℤ (a *ℤ b)
product a b p q = above (a *ℤ b) (pos 1 *ℤ b) (≤ℤ-*ℤ (pos 1) a b (omega (arith, ints)) (omega (arith, ints))) (one-*ℤ b)
  where
    above : (x y : ℤ) → y ≤ℤ x → y ≡ b → pos 0 <ℤ x
    above x y h e = omega (arith, ints)

pub factor_positive : (a b : ℤ) → pos 0 <ℤ a → pos 0 <ℤ (a *ℤ b) → pos 0 <ℤ b
factor_positive a b p q = by_lt_z (pos 0) b (λ done. done) (λ h. absurd (clash (a *ℤ b) (b *ℤ a) (pos 0 *ℤ a) q (*ℤ_comm a b) (zero-*ℤ a) (≤ℤ-*ℤ b (pos 0) a (omega (arith, ints)) h)))
  where
    clash : (x y z : ℤ) → pos 0 <ℤ x → x ≡ y → z ≡ pos 0 → y ≤ℤ z → ⊥
    clash x y z q e f h = omega (arith, ints)

pub stays_positive : (factor new p old q pivot : ℤ) → pos 0 <ℤ factor → factor *ℤ new ≡ p *ℤ old -ℤ q *ℤ pivot → pos 0 <ℤ p → pos 0 <ℤ old → pivot ≡ pos 0 → pos 0 <ℤ new
stays_positive factor new p old q pivot positive e f g h =
    factor_positive factor new positive (subst (λ (z : ℤ). pos 0 <ℤ z) (sym (e ∙ rw (h, times_zero q) (alone (p *ℤ old)))) (product p old f g))
  where
    alone : (z : ℤ) → z -ℤ pos 0 ≡ z
    alone z = omega (arith, ints)

-- ---- the parts of a tableau

Parts : {P : Type 0} (i line : ℕ) → (i ≡ line → P) → (i ≢ line → P) → P
Parts i line same other = ⊎_elim same other (cases_eq i line)

exchanged_own : (lines units columns : ℕ) (frame before after : ℕ → ℕ → ℤ) (old new : ℕ → ℕ) (line column : ℕ)
    → IsWholeTableau lines units columns frame before old → IsExchange lines before after line column → IsChanged lines old new line column
    → column < columns → ((i : ℕ) → i < lines → old i < columns) → line < lines → (i : ℕ) → i < lines → pos 0 <ℤ after i (new i)
exchanged_own lines units columns frame before after old new line column t x c in_range ranges here i h =
    Parts i line
    (λ same. subst (λ k. pos 0 <ℤ after k (new k)) (sym same) (subst (λ j. pos 0 <ℤ after line j) (sym c.there) x.positive))
    (λ other. subst (λ j. pos 0 <ℤ after i j) (sym (c.elsewhere i h other)) (elsewhere other (x.line_without i h other)))
  where
    elsewhere : i ≢ line → IsCleared (before i) (after line) (after i) column → pos 0 <ℤ after i (old i)
    elsewhere other s =
        stays_positive s.factor (after i (old i)) (after line column) (before i (old i)) (before i column) (after line (old i)) s.positive
        (s.is (old i)) x.positive (t.own i h) (x.upright (old i) ∙ ap (λ z. x.sign *ℤ z) (t.others line i here h (λ e. other (sym e))) ∙ times_zero x.sign)

exchanged_others : (lines units columns : ℕ) (frame before after : ℕ → ℕ → ℤ) (old new : ℕ → ℕ) (line column : ℕ)
    → IsWholeTableau lines units columns frame before old → IsExchange lines before after line column → IsChanged lines old new line column
    → column < columns → ((i : ℕ) → i < lines → old i < columns) → line < lines → (i k : ℕ) → i < lines → k < lines → i ≢ k → after i (new k) ≡ pos 0
exchanged_others lines units columns frame before after old new line column t x c in_range ranges here i k h g apart =
    Parts k line
    (λ same. ap (λ j. after i j) (ap new same ∙ c.there) ∙ at_column (λ e. apart (e ∙ sym same)))
    (λ other. ap (λ j. after i j) (c.elsewhere k g other) ∙ Parts i line
    (λ same. ap (λ l. after l (old k)) same ∙ at_line other)
    (λ elsewhere. both_zero (x.line_without i h elsewhere).factor (after i (old k)) (after line column) (before i (old k)) (before i column) (after line (old k))
    (x.line_without i h elsewhere).positive ((x.line_without i h elsewhere).is (old k)) (t.others i k h g apart) (at_line other)))
  where
    at_line : k ≢ line → after line (old k) ≡ pos 0
    at_line other = x.upright (old k) ∙ ap (λ z. x.sign *ℤ z) (t.others line k here g (λ e. other (sym e))) ∙ times_zero x.sign

    at_column : i ≢ line → after i column ≡ pos 0
    at_column other = at_pivot (x.line_without i h other).factor (after i column) (after line column) (before i column) (x.line_without i h other).positive ((x.line_without i h other).is column)

exchanged_combination : (lines units columns : ℕ) (frame before after : ℕ → ℕ → ℤ) (old new : ℕ → ℕ) (line column : ℕ)
    → IsWholeTableau lines units columns frame before old → IsExchange lines before after line column
    → units + lines ≡ columns → line < lines → (i : ℕ) → i < lines → IsOwnCombination lines units columns frame (after i)
exchanged_combination lines units columns frame before after old new line column t x wide here i h j g =
    Parts i line (λ same. subst (λ k. after k j ≡ sum_below lines (λ l. after k (units + l) *ℤ frame l j)) (sym same) at_line) (λ other. elsewhere (x.line_without i h other))
  where
    at_line : after line j ≡ sum_below lines (λ l. after line (units + l) *ℤ frame l j)
    at_line =
        x.upright j ∙ ap (λ z. x.sign *ℤ z) (t.combination line here j g)
        ∙ sym (weighted_multiple lines (λ l. before line (units + l)) (λ l. after line (units + l)) (λ l. frame l j) x.sign (λ l k. x.upright (units + l)))

    elsewhere : IsCleared (before i) (after line) (after i) column → after i j ≡ sum_below lines (λ l. after i (units + l) *ℤ frame l j)
    elsewhere s =
        cancelled s.factor (after i j) (sum_below lines (λ l. after i (units + l) *ℤ frame l j)) s.positive
        (s.is j
        ∙ ap (λ z. after line column *ℤ z -ℤ before i column *ℤ after line j) (t.combination i h j g)
        ∙ ap (λ z. after line column *ℤ sum_below lines (λ l. before i (units + l) *ℤ frame l j) -ℤ before i column *ℤ z) at_line
        ∙ sym (weighted lines (λ l. before i (units + l)) (λ l. after line (units + l)) (λ l. after i (units + l)) (λ l. frame l j) s.factor (after line column) (before i column) (λ l k. s.is (units + l))))

-- p times one line less q times another
abbrev pub difference : ℤ → (ℕ → ℤ) → ℤ → (ℕ → ℤ) → ℕ → ℤ
difference p v q w j = p *ℤ v j -ℤ q *ℤ w j

pub IsCombination-difference : (lines units columns : ℕ) (frame : ℕ → ℕ → ℤ) (p q : ℤ) (v w : ℕ → ℤ) → IsOwnCombination lines units columns frame v → IsOwnCombination lines units columns frame w → IsOwnCombination lines units columns frame (difference p v q w)
IsCombination-difference lines units columns frame p q v w e f j h =
    ap (λ z. p *ℤ z -ℤ q *ℤ w j) (e j h) ∙ ap (λ z. p *ℤ sum_below lines (λ l. v (units + l) *ℤ frame l j) -ℤ q *ℤ z) (f j h)
    ∙ sym (weighted lines (λ l. v (units + l)) (λ l. w (units + l)) (λ l. difference p v q w (units + l)) (λ l. frame l j) (pos 1) p q (λ l k. one-*ℤ (difference p v q w (units + l))))
    ∙ one-*ℤ (sum_below lines (λ l. difference p v q w (units + l) *ℤ frame l j))

pub zero_difference : (p q x y : ℤ) → x ≡ pos 0 → y ≡ pos 0 → p *ℤ x -ℤ q *ℤ y ≡ pos 0
zero_difference p q x y e f = rw (e, f, times_zero p, times_zero q) refl

pub zero_factor : (a b : ℤ) → a *ℤ b ≡ pos 0 → (b ≡ pos 0 → ⊥) → a ≡ pos 0
zero_factor a b e h =
    by_lt_z (pos 0) b (λ p. cancelled b a (pos 0) p (*ℤ_comm b a ∙ e ∙ sym (times_zero b)))
    (λ p. cancelled (neg_ℤ b) a (pos 0) (omega (arith, ints, h)) (neg_ℤ-*ℤ b a ∙ ap neg_ℤ (*ℤ_comm b a ∙ e) ∙ sym (times_zero (neg_ℤ b))))

exchanged_determined : (lines units columns : ℕ) (frame before after : ℕ → ℕ → ℤ) (old new : ℕ → ℕ) (line column : ℕ)
    → IsWholeTableau lines units columns frame before old → IsExchange lines before after line column → IsChanged lines old new line column
    → column < columns → ((i : ℕ) → i < lines → old i < columns) → line < lines
    → (w : ℕ → ℤ) → IsOwnCombination lines units columns frame w → ((k : ℕ) → k < lines → w (new k) ≡ pos 0) → (j : ℕ) → j < columns → w j ≡ pos 0
exchanged_determined lines units columns frame before after old new line column t x c in_range ranges here w is zero_new = t.determined w is zero_old
  where
    elsewhere : (k : ℕ) → k < lines → k ≢ line → w (old k) ≡ pos 0
    elsewhere k h apart = ap w (sym (c.elsewhere k h apart)) ∙ zero_new k h

    other_zero : (j : ℕ) → j < columns → before line (old line) *ℤ w j -ℤ w (old line) *ℤ before line j ≡ pos 0
    other_zero =
        t.determined (difference (before line (old line)) w (w (old line)) (before line))
        (IsCombination-difference lines units columns frame (before line (old line)) (w (old line)) w (before line) is (t.combination line here))
        (λ k h. Parts k line
        (λ same. ap (difference (before line (old line)) w (w (old line)) (before line)) (ap old same) ∙ swapped (before line (old line)) (w (old line)))
        (λ apart. zero_difference (before line (old line)) (w (old line)) (w (old k)) (before line (old k)) (elsewhere k h apart) (t.others line k here h (λ e. apart (sym e)))))
      where
        swapped : (p q : ℤ) → p *ℤ q -ℤ q *ℤ p ≡ pos 0
        swapped p q = rw (*ℤ_comm q p) (none (p *ℤ q))
          where
            none : (z : ℤ) → z -ℤ z ≡ pos 0
            none z = omega (arith, ints)

    not_zero : before line column ≡ pos 0 → ⊥
    not_zero e = clash (after line column) x.positive (x.upright column ∙ ap (λ z. x.sign *ℤ z) e ∙ times_zero x.sign)
      where
        clash : (z : ℤ) → pos 0 <ℤ z → z ≡ pos 0 → ⊥
        clash z p e = omega (arith, ints)

    leaving : w (old line) ≡ pos 0
    leaving = zero_factor (w (old line)) (before line column) (last (before line (old line)) (w column) (w (old line) *ℤ before line column) (ap w (sym c.there) ∙ zero_new line here) (other_zero column in_range)) not_zero
      where
        last : (p v z : ℤ) → v ≡ pos 0 → p *ℤ v -ℤ z ≡ pos 0 → z ≡ pos 0
        last p v z e f = plain (p *ℤ v) (ap (λ u. p *ℤ u) e ∙ times_zero p) f
          where
            plain : (y : ℤ) → y ≡ pos 0 → y -ℤ z ≡ pos 0 → z ≡ pos 0
            plain y g h = omega (arith, ints)

    zero_old : (k : ℕ) → k < lines → w (old k) ≡ pos 0
    zero_old k h = Parts k line (λ same. ap (λ i. w (old i)) same ∙ leaving) (elsewhere k h)

exchanged_solutions : (lines units columns : ℕ) (frame before after : ℕ → ℕ → ℤ) (old : ℕ → ℕ) (line column : ℕ)
    → IsWholeTableau lines units columns frame before old → IsExchange lines before after line column → line < lines
    → (x : ℕ → ℤ) → ((i : ℕ) → i < lines → sum_below columns (λ j. after i j *ℤ x j) ≡ pos 0) → (l : ℕ) → l < lines → sum_below columns (λ j. frame l j *ℤ x j) ≡ pos 0
exchanged_solutions lines units columns frame before after old line column t e here x zero_after = t.solutions x zero_before
  where
    at_line : sum_below columns (λ j. before line j *ℤ x j) ≡ pos 0
    at_line = weighted_multiple columns (after line) (before line) x e.sign (λ j h. e.back j) ∙ ap (λ z. e.sign *ℤ z) (zero_after line here) ∙ times_zero e.sign

    elsewhere : (i : ℕ) → i < lines → IsCleared (before i) (after line) (after i) column → sum_below columns (λ j. before i j *ℤ x j) ≡ pos 0
    elsewhere i h s =
        vanishes (after line column) (sum_below columns (λ j. before i j *ℤ x j)) e.positive
        (last (s.factor) (before i column) (sum_below columns (λ j. after i j *ℤ x j)) (sum_below columns (λ j. after line j *ℤ x j)) (after line column *ℤ sum_below columns (λ j. before i j *ℤ x j))
        (weighted columns (before i) (after line) (after i) x s.factor (after line column) (before i column) (λ j _. s.is j)) (zero_after i h) (zero_after line here))
      where
        last : (f q s p z : ℤ) → f *ℤ s ≡ z -ℤ q *ℤ p → s ≡ pos 0 → p ≡ pos 0 → z ≡ pos 0
        last f q s p z is a b = plain z (sym (rw (a, b, times_zero f, times_zero q) at is))
          where
            plain : (z : ℤ) → z -ℤ pos 0 ≡ pos 0 → z ≡ pos 0
            plain z is = omega (arith, ints)

    zero_before : (i : ℕ) → i < lines → sum_below columns (λ j. before i j *ℤ x j) ≡ pos 0
    zero_before i h = Parts i line (λ same. subst (λ k. sum_below columns (λ j. before k j *ℤ x j) ≡ pos 0) (sym same) at_line) (λ other. elsewhere i h (e.line_without i h other))

pub exchanged_is : (lines units columns : ℕ) (frame before after : ℕ → ℕ → ℤ) (old new : ℕ → ℕ) (line column : ℕ)
    → IsWholeTableau lines units columns frame before old → IsExchange lines before after line column → IsChanged lines old new line column
    → units + lines ≡ columns → line < lines → column < columns → ((i : ℕ) → i < lines → old i < columns)
    → IsWholeTableau lines units columns frame after new
exchanged_is lines units columns frame before after old new line column t x c wide here in_range ranges = record {
  own = exchanged_own lines units columns frame before after old new line column t x c in_range ranges here;
  others = exchanged_others lines units columns frame before after old new line column t x c in_range ranges here;
  combination = exchanged_combination lines units columns frame before after old new line column t x wide here;
  determined = exchanged_determined lines units columns frame before after old new line column t x c in_range ranges here;
  solutions = exchanged_solutions lines units columns frame before after old line column t x here;
}
