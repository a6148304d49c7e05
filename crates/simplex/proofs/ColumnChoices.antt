-- What a choice of columns determines.
use Rattle.std.proofs.Common.{◌≡◌, ◌≢◌, ℕ, zero, suc, ◌+◌, ◌<◌, ◌≤◌, Bool, true, false, cond, refl, sym, ap, ◌∙◌, arith, ⊎_elim, ℤ, pos, ◌-ℤ◌, ◌*ℤ◌, ◌<ℤ◌}
use Rattle.std.specs.Prelude.{◌||◌, nat_eq}
use Rattle.std.proofs.lemmas.Int.{ints}
use Rattle.std.proofs.lemmas.Bool.{cases_eq, false≢true, eq-eqb, ne_eqb, eqb-true}
use Rattle.std.proofs.Math.IntN.{*ℤ_comm}
use Rattle.simplex.specs.Choices.{count_to}
use Rattle.simplex.specs.Frames.{IsWholeTableau, is_chosen}
use Rattle.simplex.proofs.Exchanges.{zero_difference, difference, IsCombination-difference}

-- ---- a choice as a test

pub is_chosen-at : (lines : ℕ) (chosen : ℕ → ℕ) (k : ℕ) → k < lines → is_chosen lines chosen (chosen k) ≡ true
is_chosen-at zero chosen k h = absurd (omega arith)
is_chosen-at (suc n) chosen k h =
    ⊎_elim (λ (e : k ≡ n). rw (eq-eqb (chosen n) (chosen k) (ap chosen (sym e))) refl)
    (λ other. either (nat_eq (chosen n) (chosen k)) (is_chosen-at n chosen k (omega arith))) (cases_eq k n)
  where
    either : (b : Bool) → is_chosen n chosen (chosen k) ≡ true → b || is_chosen n chosen (chosen k) ≡ true
    either true e = refl
    either false e = e

-- a column that is chosen is chosen by a line
pub chosen_by : (lines : ℕ) (chosen : ℕ → ℕ) (j : ℕ) → is_chosen lines chosen j ≡ true → (k : ℕ) × ((k < lines) × (chosen k ≡ j))
chosen_by zero chosen j e = absurd (false≢true e)
chosen_by (suc n) chosen j e = go (nat_eq (chosen n) j) refl (chosen_by n chosen j)
  where
    go : (b : Bool) → nat_eq (chosen n) j ≡ b → (is_chosen n chosen j ≡ true → (k : ℕ) × ((k < n) × (chosen k ≡ j))) → (k : ℕ) × ((k < suc n) × (chosen k ≡ j))
    go true f rest = (n, (omega arith, eqb-true (chosen n) j f))
    go false f rest = let found = rest (rw f at e) in (found.0, (omega (arith, found.1.0), found.1.1))

-- a test with one more number
pub count_to-more : (n : ℕ) (p q : ℕ → Bool) (c : ℕ) → c < n → p c ≡ false → q c ≡ true → ((j : ℕ) → j ≢ c → q j ≡ p j) → count_to n q ≡ count_to n p + 1
count_to-more zero p q c h e f g = absurd (omega arith)
count_to-more (suc n) p q c h e f g =
    ⊎_elim (λ (same : c ≡ n). at_end same) (λ other. below other (count_to-more n p q c (omega arith) e f g)) (cases_eq c n)
  where
    at_end : c ≡ n → count_to n q + cond (q n) 1 0 ≡ count_to n p + cond (p n) 1 0 + 1
    at_end same =
        let x : q n ≡ true = ap q (sym same) ∙ f in
        let y : p n ≡ false = ap p (sym same) ∙ e in
        let z : count_to n q ≡ count_to n p = unchanged n (omega arith) in rw (x, y, z) (omega arith)
      where
        unchanged : (m : ℕ) → m ≤ c → count_to m q ≡ count_to m p
        unchanged zero h = refl
        unchanged (suc m) h = rw (unchanged m (omega arith), g m (λ same. absurd (omega arith))) refl

    below : c ≢ n → count_to n q ≡ count_to n p + 1 → count_to n q + cond (q n) 1 0 ≡ count_to n p + cond (p n) 1 0 + 1
    below other known = let same : q n ≡ p n = g n (λ e. other (sym e)) in rw (same, known) (omega arith)

-- lines that choose different columns choose as many as there are lines
pub count_to-chosen : (columns lines : ℕ) (chosen : ℕ → ℕ) → ((k : ℕ) → k < lines → chosen k < columns) → ((i k : ℕ) → i < lines → k < lines → i ≢ k → chosen i ≢ chosen k) → count_to columns (is_chosen lines chosen) ≡ lines
count_to-chosen columns zero chosen r d = none columns
  where
    none : (n : ℕ) → count_to n (λ _. false) ≡ 0
    none zero = refl
    none (suc n) = rw (none n) refl
count_to-chosen columns (suc n) chosen r d =
    count_to-more columns (is_chosen n chosen) (is_chosen (suc n) chosen) (chosen n) (r n (omega arith)) (fresh (is_chosen n chosen (chosen n)) refl)
    (rw (eq-eqb (chosen n) (chosen n) refl) refl) (λ j other. rw (ne_eqb (chosen n) j (λ e. other (sym e))) refl)
    ∙ let known : count_to columns (is_chosen n chosen) ≡ n = count_to-chosen columns n chosen (λ k h. r k (omega arith)) (λ i k h g. d i k (omega arith) (omega arith)) in omega arith
  where
    fresh : (b : Bool) → is_chosen n chosen (chosen n) ≡ b → is_chosen n chosen (chosen n) ≡ false
    fresh true e = let found = chosen_by n chosen (chosen n) e in absurd (d found.0 n (omega (arith, found.1.0)) (omega arith) (let h : found.0 < n = found.1.0 in λ same. absurd (omega arith)) found.1.1)
    fresh false e = e

-- ---- a line's numbers

-- Two tableaux of one frame that choose the same columns, and the same one in a line, have the same
-- line up to its number there.
pub same_line : (lines units columns : ℕ) (frame first second : ℕ → ℕ → ℤ) (one two : ℕ → ℕ) (goal : ℕ)
    → IsWholeTableau lines units columns frame first one → IsWholeTableau lines units columns frame second two
    → goal < lines → one goal ≡ two goal → ((j : ℕ) → j < columns → is_chosen lines one j ≡ is_chosen lines two j) → ((k : ℕ) → k < lines → one k < columns)
    → (j : ℕ) → j < columns → second goal (two goal) *ℤ first goal j -ℤ first goal (one goal) *ℤ second goal j ≡ pos 0
same_line lines units columns frame first second one two goal s t here same choices ranges =
    s.determined (difference (second goal (two goal)) (first goal) (first goal (one goal)) (second goal))
    (IsCombination-difference lines units columns frame (second goal (two goal)) (first goal (one goal)) (first goal) (second goal) (s.combination goal here) (t.combination goal here))
    (λ k h. ⊎_elim (λ (e : k ≡ goal). ap (difference (second goal (two goal)) (first goal) (first goal (one goal)) (second goal)) (ap one e) ∙ at_goal)
    (λ other. zero_difference (second goal (two goal)) (first goal (one goal)) (first goal (one k)) (second goal (one k)) (s.others goal k here h (λ e. other (sym e))) (elsewhere k h other (chosen_by lines two (one k) (sym (choices (one k) (ranges k h)) ∙ is_chosen-at lines one k h)))) (cases_eq k goal))
  where
    at_goal : second goal (two goal) *ℤ first goal (one goal) -ℤ first goal (one goal) *ℤ second goal (one goal) ≡ pos 0
    at_goal = ap (λ j. second goal (two goal) *ℤ first goal (one goal) -ℤ first goal (one goal) *ℤ second goal j) same ∙ rw (*ℤ_comm (first goal (one goal)) (second goal (two goal))) (none (second goal (two goal) *ℤ first goal (one goal)))
      where
        none : (z : ℤ) → z -ℤ z ≡ pos 0
        none z = omega (arith, ints)

    elsewhere : (k : ℕ) → k < lines → k ≢ goal → (l : ℕ) × ((l < lines) × (two l ≡ one k)) → second goal (one k) ≡ pos 0
    elsewhere k h other found = ap (second goal) (sym found.1.1) ∙ t.others goal found.0 here found.1.0 (λ e. apart (found.1.1) (e))
      where
        apart : two found.0 ≡ one k → goal ≡ found.0 → ⊥
        apart is e = clash (first goal (one goal)) (s.own goal here) (ap (first goal) (same ∙ ap two e ∙ is) ∙ s.others goal k here h (λ f. other (sym f)))
          where
            clash : (z : ℤ) → pos 0 <ℤ z → z ≡ pos 0 → ⊥
            clash z p e = omega (arith, ints)
