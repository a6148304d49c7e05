-- Another goal in a tableau: its line is cleared at what the other lines choose, and the tableau is
-- one of the other frame.
use Rattle.std.proofs.Common.{◌≡◌, ◌≢◌, ℕ, ◌+◌, ◌<◌, Bool, cond, refl, sym, ap, subst, ◌∙◌, arith, ⊎_elim, ℤ, pos, ◌-ℤ◌, ◌*ℤ◌, ◌<ℤ◌}
use Rattle.std.specs.Prelude.{nat_eq}
use Rattle.std.proofs.lemmas.Int.{ints}
use Rattle.std.proofs.lemmas.Bool.{cases_eq, eq-eqb, ne_eqb}
use Rattle.std.proofs.Math.IntN.{*ℤ_comm, zero-*ℤ}
use Rattle.whole_numbers.proofs.Ring.{one-*ℤ}
use Rattle.farkas_check.specs.Frames.{sum_below}
use Rattle.simplex.specs.Frames.{IsOwnCombination, IsWholeTableau, IsCleared}
use Rattle.simplex.proofs.Corners.{single}
use Rattle.simplex.proofs.Exchanges.{cancelled, times_zero, vanishes, both_zero, at_pivot, stays_positive}
use Rattle.simplex.proofs.Sums.{sum_below-same, weighted}

-- a tableau of a frame in which one line chooses its own unit column, and a frame that differs in
-- this line
pub record HasGoal (lines goal units columns : ℕ) (frame other numbers : ℕ → ℕ → ℤ) (chosen : ℕ → ℕ) : Type 0 where
  pub tableau : IsWholeTableau lines units columns frame numbers chosen
  pub wide : units + lines ≡ columns
  pub within : (i : ℕ) → i < lines → chosen i < columns
  pub here : goal < lines
  pub own : chosen goal ≡ units + goal
  pub same : (l j : ℕ) → l < lines → l ≢ goal → other l j ≡ frame l j
  pub apart : (l : ℕ) → l < lines → l ≢ goal → other l (units + goal) ≡ pos 0
  pub unit : other goal (units + goal) ≡ pos 1
  pub whole : IsOwnCombination lines units columns other (other goal)

-- the other goal's line, cleared at what the lines before a place choose
pub record IsClearedTo (lines goal units columns : ℕ) (other numbers : ℕ → ℕ → ℤ) (chosen : ℕ → ℕ) (place : ℕ) (w : ℕ → ℤ) : Type 0 where
  pub own : pos 0 <ℤ w (units + goal)
  pub zeros : (i : ℕ) → i < place → w (chosen i) ≡ pos 0
  pub combination : IsOwnCombination lines units columns other w
  pub solutions : (x : ℕ → ℤ) → ((i : ℕ) → i < lines → i ≢ goal → sum_below columns (λ j. numbers i j *ℤ x j) ≡ pos 0) → sum_below columns (λ j. w j *ℤ x j) ≡ pos 0 → sum_below columns (λ j. other goal j *ℤ x j) ≡ pos 0

-- ---- combinations of both frames

module _ (lines goal units columns : ℕ) (frame other numbers : ℕ → ℕ → ℤ) (chosen : ℕ → ℕ) (s : HasGoal lines goal units columns frame other numbers chosen) where
  -- what has no part of the goal is the same combination of both
  same_sum : (v : ℕ → ℤ) → v (units + goal) ≡ pos 0 → (j : ℕ) → sum_below lines (λ l. v (units + l) *ℤ other l j) ≡ sum_below lines (λ l. v (units + l) *ℤ frame l j)
  same_sum v e j =
      sum_below-same lines (λ l. v (units + l) *ℤ other l j) (λ l. v (units + l) *ℤ frame l j)
      (λ l h. ⊎_elim (λ (is : l ≡ goal). no_part l (ap (λ k. v (units + k)) is ∙ e)) (λ apart. ap (λ z. v (units + l) *ℤ z) (s.same l j h apart)) (cases_eq l goal))
    where
      no_part : (l : ℕ) → v (units + l) ≡ pos 0 → v (units + l) *ℤ other l j ≡ v (units + l) *ℤ frame l j
      no_part l z = rw (z, zero-*ℤ (other l j), zero-*ℤ (frame l j)) refl

  of_other : (v : ℕ → ℤ) → v (units + goal) ≡ pos 0 → IsOwnCombination lines units columns frame v → IsOwnCombination lines units columns other v
  of_other v e is j h = is j h ∙ sym (same_sum v e j)

  of_first : (v : ℕ → ℤ) → v (units + goal) ≡ pos 0 → IsOwnCombination lines units columns other v → IsOwnCombination lines units columns frame v
  of_first v e is j h = is j h ∙ same_sum v e j

  -- other lines have no part of the goal
  no_goal : (i : ℕ) → i < lines → i ≢ goal → numbers i (units + goal) ≡ pos 0
  no_goal i h apart = ap (numbers i) (sym s.own) ∙ s.tableau.others i goal h s.here apart

  row_combination : (i : ℕ) → i < lines → i ≢ goal → IsOwnCombination lines units columns other (numbers i)
  row_combination i h apart = of_other (numbers i) (no_goal i h apart) (s.tableau.combination i h)

  -- ---- the goal's line

  pub cleared_first : IsClearedTo lines goal units columns other numbers chosen 0 (other goal)
  cleared_first = record {
    own = subst (λ (z : ℤ). pos 0 <ℤ z) (sym s.unit) (omega (arith, ints));
    zeros = λ i h. absurd (omega (arith, h));
    combination = s.whole;
    solutions = λ x rows e. e;
  }

  pub cleared_more : (place : ℕ) (w new : ℕ → ℤ) → place < goal → IsClearedTo lines goal units columns other numbers chosen place w → IsCleared w (numbers place) new (chosen place) → IsClearedTo lines goal units columns other numbers chosen (place + 1) new
  cleared_more place w new before c x = record {
    own = stays_positive x.factor (new (units + goal)) (numbers place (chosen place)) (w (units + goal)) (w (chosen place)) (numbers place (units + goal)) x.positive (x.is (units + goal)) pivot c.own (no_goal place within apart);
    zeros = zeros;
    combination = combination;
    solutions = solutions;
  }
    where
      within : place < lines
      within = let h : goal < lines = s.here in omega (arith, h, before)

      apart : place ≢ goal
      apart same = absurd (omega (arith, same, before))

      pivot : pos 0 <ℤ numbers place (chosen place)
      pivot = s.tableau.own place within

      zeros : (i : ℕ) → i < place + 1 → new (chosen i) ≡ pos 0
      zeros i h = ⊎_elim (λ (is : i ≡ place). ap (λ k. new (chosen k)) is ∙ at_pivot x.factor (new (chosen place)) (numbers place (chosen place)) (w (chosen place)) x.positive (x.is (chosen place)))
          (λ other_line. both_zero x.factor (new (chosen i)) (numbers place (chosen place)) (w (chosen i)) (w (chosen place)) (numbers place (chosen i)) x.positive (x.is (chosen i))
          (c.zeros i (omega (arith, h, other_line))) (s.tableau.others place i within (omega (arith, h, within)) (λ e. other_line (sym e)))) (cases_eq i place)

      combination : IsOwnCombination lines units columns other new
      combination j g =
          cancelled x.factor (new j) (sum_below lines (λ l. new (units + l) *ℤ other l j)) x.positive
          (x.is j
          ∙ ap (λ z. numbers place (chosen place) *ℤ z -ℤ w (chosen place) *ℤ numbers place j) (c.combination j g)
          ∙ ap (λ z. numbers place (chosen place) *ℤ sum_below lines (λ l. w (units + l) *ℤ other l j) -ℤ w (chosen place) *ℤ z) (row_combination place within apart j g)
          ∙ sym (weighted lines (λ l. w (units + l)) (λ l. numbers place (units + l)) (λ l. new (units + l)) (λ l. other l j) x.factor (numbers place (chosen place)) (w (chosen place)) (λ l k. x.is (units + l))))

      solutions : (y : ℕ → ℤ) → ((i : ℕ) → i < lines → i ≢ goal → sum_below columns (λ j. numbers i j *ℤ y j) ≡ pos 0) → sum_below columns (λ j. new j *ℤ y j) ≡ pos 0 → sum_below columns (λ j. other goal j *ℤ y j) ≡ pos 0
      solutions y rows e =
          c.solutions y rows
          (vanishes (numbers place (chosen place)) (sum_below columns (λ j. w j *ℤ y j)) pivot
          (last x.factor (w (chosen place)) (sum_below columns (λ j. new j *ℤ y j)) (sum_below columns (λ j. numbers place j *ℤ y j)) (numbers place (chosen place) *ℤ sum_below columns (λ j. w j *ℤ y j))
          (weighted columns w (numbers place) new y x.factor (numbers place (chosen place)) (w (chosen place)) (λ j _. x.is j)) e (rows place within apart)))
        where
          last : (f q r p z : ℤ) → f *ℤ r ≡ z -ℤ q *ℤ p → r ≡ pos 0 → p ≡ pos 0 → z ≡ pos 0
          last f q r p z is a b = plain z (sym (rw (a, b, times_zero f, times_zero q) at is))
            where
              plain : (z : ℤ) → z -ℤ pos 0 ≡ pos 0 → z ≡ pos 0
              plain z is = omega (arith, ints)

  -- ---- solutions of the rows

  abbrev at_goal : ℕ → ℤ
  at_goal j = cond (nat_eq j (units + goal)) (pos 1) (pos 0)

  -- numbers that are changed at the goal's unit column alone
  abbrev shifted : ℤ → ℤ → (ℕ → ℤ) → ℕ → ℤ
  shifted p q x j = p *ℤ x j -ℤ q *ℤ at_goal j

  unit_sum : (v : ℕ → ℤ) → sum_below columns (λ j. at_goal j *ℤ v j) ≡ v (units + goal)
  unit_sum v =
      single columns (λ j. at_goal j *ℤ v j) (units + goal) (let h : goal < lines = s.here in let e : units + lines ≡ columns = s.wide in omega (arith, h, e))
      (λ j h other_column. ap (λ (b : Bool). cond b (pos 1) (pos 0) *ℤ v j) (ne_eqb j (units + goal) other_column) ∙ zero-*ℤ (v j))
      ∙ ap (λ (b : Bool). cond b (pos 1) (pos 0) *ℤ v (units + goal)) (eq-eqb (units + goal) (units + goal) refl) ∙ one-*ℤ (v (units + goal))

  turned_sum : (v x : ℕ → ℤ) → sum_below columns (λ j. v j *ℤ x j) ≡ sum_below columns (λ j. x j *ℤ v j)
  turned_sum v x = sum_below-same columns (λ j. v j *ℤ x j) (λ j. x j *ℤ v j) (λ j h. *ℤ_comm (v j) (x j))

  shifted_sum : (p q : ℤ) (x v : ℕ → ℤ) → sum_below columns (λ j. v j *ℤ shifted p q x j) ≡ p *ℤ sum_below columns (λ j. v j *ℤ x j) -ℤ q *ℤ v (units + goal)
  shifted_sum p q x v =
      turned_sum v (shifted p q x) ∙ sym (one-*ℤ (sum_below columns (λ j. shifted p q x j *ℤ v j)))
      ∙ weighted columns x at_goal (shifted p q x) v (pos 1) p q (λ j h. one-*ℤ (shifted p q x j))
      ∙ ap (λ z. p *ℤ z -ℤ q *ℤ sum_below columns (λ j. at_goal j *ℤ v j)) (turned_sum x v)
      ∙ ap (λ z. p *ℤ sum_below columns (λ j. v j *ℤ x j) -ℤ q *ℤ z) (unit_sum v)

  -- what is 0 on the lines of the rows is 0 on the rows: its number at the goal's unit column is
  -- free
  row_solutions : (x : ℕ → ℤ) → ((i : ℕ) → i < lines → i ≢ goal → sum_below columns (λ j. numbers i j *ℤ x j) ≡ pos 0) → (l : ℕ) → l < lines → l ≢ goal → sum_below columns (λ j. other l j *ℤ x j) ≡ pos 0
  row_solutions x rows l h apart =
      vanishes p (sum_below columns (λ j. other l j *ℤ x j)) positive
      (whole (p *ℤ sum_below columns (λ j. other l j *ℤ x j)) (q *ℤ other l (units + goal))
      (sym (shifted_sum p q x (other l)) ∙ sum_below-same columns (λ j. other l j *ℤ shifted p q x j) (λ j. frame l j *ℤ shifted p q x j) (λ j _. ap (λ z. z *ℤ shifted p q x j) (s.same l j h apart)) ∙ s.tableau.solutions (shifted p q x) each l h)
      (ap (λ z. q *ℤ z) (s.apart l h apart) ∙ times_zero q))
    where
      p : ℤ
      p = numbers goal (units + goal)

      q : ℤ
      q = sum_below columns (λ j. numbers goal j *ℤ x j)

      positive : pos 0 <ℤ p
      positive = subst (λ j. pos 0 <ℤ numbers goal j) s.own (s.tableau.own goal s.here)

      whole : (a b : ℤ) → a -ℤ b ≡ pos 0 → b ≡ pos 0 → a ≡ pos 0
      whole a b e f = omega (arith, ints)

      none : (a b c : ℤ) → a ≡ pos 0 → c ≡ pos 0 → b ≡ a -ℤ c → b ≡ pos 0
      none a b c e f g = omega (arith, ints)

      each : (i : ℕ) → i < lines → sum_below columns (λ j. numbers i j *ℤ shifted p q x j) ≡ pos 0
      each i k = shifted_sum p q x (numbers i) ∙ ⊎_elim (λ (is : i ≡ goal). at_line i is) (λ other_line. elsewhere i k other_line) (cases_eq i goal)
        where
          level : (a b : ℤ) → a *ℤ b -ℤ b *ℤ a ≡ pos 0
          level a b = rw (*ℤ_comm b a) (zero (a *ℤ b))
            where
              zero : (z : ℤ) → z -ℤ z ≡ pos 0
              zero z = omega (arith, ints)

          at_line : (i : ℕ) → i ≡ goal → p *ℤ sum_below columns (λ j. numbers i j *ℤ x j) -ℤ q *ℤ numbers i (units + goal) ≡ pos 0
          at_line i is = subst (λ k. p *ℤ sum_below columns (λ j. numbers k j *ℤ x j) -ℤ q *ℤ numbers k (units + goal) ≡ pos 0) (sym is) (level p q)

          elsewhere : (i : ℕ) → i < lines → i ≢ goal → p *ℤ sum_below columns (λ j. numbers i j *ℤ x j) -ℤ q *ℤ numbers i (units + goal) ≡ pos 0
          elsewhere i k other_line =
              none (p *ℤ sum_below columns (λ j. numbers i j *ℤ x j)) (p *ℤ sum_below columns (λ j. numbers i j *ℤ x j) -ℤ q *ℤ numbers i (units + goal)) (q *ℤ numbers i (units + goal))
              (ap (λ z. p *ℤ z) (rows i k other_line) ∙ times_zero p) (ap (λ z. q *ℤ z) (no_goal i k other_line) ∙ times_zero q) refl

  -- ---- the tableau with the other goal's line

  pub swapped_is : (after : ℕ → ℕ → ℤ) (w : ℕ → ℤ) → lines ≡ goal + 1 → IsClearedTo lines goal units columns other numbers chosen goal w
      → ((i : ℕ) → i < lines → i ≢ goal → after i ≡ numbers i) → after goal ≡ w → IsWholeTableau lines units columns other after chosen
  swapped_is after w many c rows here = record {
    own = λ i h. ⊎_elim (λ (is : i ≡ goal). subst (λ k. pos 0 <ℤ after k (chosen k)) (sym is) own) (λ apart. subst (λ (f : ℕ → ℤ). pos 0 <ℤ f (chosen i)) (sym (rows i h apart)) (s.tableau.own i h)) (cases_eq i goal);
    others = λ i k h g apart. ⊎_elim (λ (is : i ≡ goal). ap (λ l. after l (chosen k)) is ∙ ap (λ (f : ℕ → ℤ). f (chosen k)) here ∙ c.zeros k (before k g (λ same. apart (is ∙ sym same))))
        (λ row. ap (λ (f : ℕ → ℤ). f (chosen k)) (rows i h row) ∙ s.tableau.others i k h g apart) (cases_eq i goal);
    combination = λ i h. ⊎_elim (λ (is : i ≡ goal). subst (λ (f : ℕ → ℤ). IsOwnCombination lines units columns other f) (sym (ap after is ∙ here)) c.combination)
        (λ row. subst (λ (f : ℕ → ℤ). IsOwnCombination lines units columns other f) (sym (rows i h row)) (row_combination i h row)) (cases_eq i goal);
    determined = λ v is zero. s.tableau.determined v (of_first v (ap v (sym s.own) ∙ zero goal s.here) is) zero;
    solutions = solutions;
  }
    where
      own : pos 0 <ℤ after goal (chosen goal)
      own = subst (λ (f : ℕ → ℤ). pos 0 <ℤ f (chosen goal)) (sym here) (subst (λ j. pos 0 <ℤ w j) (sym s.own) c.own)

      before : (k : ℕ) → k < lines → k ≢ goal → k < goal
      before k h apart = omega (arith, h, apart, many)

      solutions : (x : ℕ → ℤ) → ((i : ℕ) → i < lines → sum_below columns (λ j. after i j *ℤ x j) ≡ pos 0) → (l : ℕ) → l < lines → sum_below columns (λ j. other l j *ℤ x j) ≡ pos 0
      solutions x zero l h = ⊎_elim (λ (is : l ≡ goal). subst (λ k. sum_below columns (λ j. other k j *ℤ x j) ≡ pos 0) (sym is) (c.solutions x each at_goal_line)) (λ row. row_solutions x each l h row) (cases_eq l goal)
        where
          each : (i : ℕ) → i < lines → i ≢ goal → sum_below columns (λ j. numbers i j *ℤ x j) ≡ pos 0
          each i k row = subst (λ (f : ℕ → ℤ). sum_below columns (λ j. f j *ℤ x j) ≡ pos 0) (rows i k row) (zero i k)

          at_goal_line : sum_below columns (λ j. w j *ℤ x j) ≡ pos 0
          at_goal_line = subst (λ (f : ℕ → ℤ). sum_below columns (λ j. f j *ℤ x j) ≡ pos 0) here (zero goal s.here)
