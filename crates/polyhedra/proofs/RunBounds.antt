-- Bounds along a run, and the rows that they give.
use Rattle.std.proofs.Common.{◌≡◌, ℕ, zero, suc, ◌+◌, ◌-◌, ◌<◌, ◌≤◌, List, [], ◌∷◌, true, Ok, Err, refl, sym, ap, subst, ◌∙◌, arith, ℤ, pos, ◌+ℤ◌, ◌-ℤ◌, ◌*ℤ◌, ◌≤ℤ◌}
use Rattle.std.specs.Prelude.{Result, Option, None, Some}
use Rattle.std.specs.List.{AllByRecursion}
use Rattle.std.proofs.lemmas.Int.{ints}
use Rattle.whole_numbers.proofs.Ring.{ring}
use Rattle.items.specs.Gives as gives
use Rattle.items.proofs.Gives.{on_ok}
use Rattle.linear_terms.specs.declared.col.Col.{Col}
use Rattle.linear_terms.specs.declared.col.Col.TheVariants.{At, Aux}
use Rattle.linear_terms.specs.declared.error.TermError.{TermError}
use Rattle.linear_terms.specs.declared.row.Row.{Row}
use Rattle.linear_terms.specs.declared.row.Case.{Case}
use Rattle.linear_terms.specs.Polynomial.{Terms, Polynomial}
use Rattle.linear_terms.specs.Row.{RowHolds, RowsHold}
use Rattle.linear_terms.specs.Value.{Valuation, mono_value, terms_value, value_of}
use Rattle.transition_formula.specs.Meaning.{numbers, HoldsAt}
use Rattle.transition_formula.specs.Transition.{Transition}
use Rattle.farkas_check.specs.declared.answer.Answer.{Answer}
use Rattle.farkas_check.specs.declared.answer.Answer.TheVariants as answer
use Rattle.farkas_check.specs.declared.question.Goal.{Goal}
use Rattle.farkas_check.specs.declared.question.Question.TheVariants.{Sup}
use Rattle.farkas_check.specs.Meaning.{IsAtMost, IsTrueAnswer}
use Rattle.posing.specs.Posing.{Posing, ◌>>=◌, each, Always}
use Rattle.posing.proofs.Paths.{always_bind}
use Rattle.linear_terms.specs.Expressions.{Made, whole, put_into}
use Rattle.polyhedra.specs.Vocabulary.{IsDirection}
use Rattle.polyhedra.specs.Changes.{poly_at, change}
use Rattle.polyhedra.specs.Bounds.{for_entries, goals_of, bound_in, bound_by, bound_of, with_row, with_row_for, rows_with_bound, before_row, put_in_for, after_row, so_often, change_row, rows_with_entry_bound, rows_with_exit_bound, bounded_change}
use Rattle.linear_terms.proofs.Worth.{IsWorth, IsTrueIfMade, IsWorth-Ok, IsWorth-same, IsWorth-whole, IsWorth-difference, IsTrueIfMade-at_most, IsWorth-put_into}
use Rattle.polyhedra.proofs.RowShapes.{with_row-keeps, each-keeps}
use Rattle.polyhedra.proofs.Turns.{number_in, Reads, post-worth, change-worth, by_some, IsRunOf}

-- ---- directions

-- the numbers of a state alone
abbrev pub of_state : List ℤ → Valuation
of_state state = numbers state (λ n. pos 0)

-- the changes between two states alone
abbrev pub between : List ℤ → List ℤ → Valuation
between before after (At v) = number_in after v -ℤ number_in before v
between before after (Aux n) = pos 0

terms-same : (u v : Valuation) → ((n : ℕ) → u (At n) ≡ v (At n)) → (ts : Terms) → AllByRecursion (λ t. (n : ℕ) × (t.0 ≡ At n ∷ [])) ts → terms_value u ts ≡ terms_value v ts
terms-same u v agree [] h = refl
terms-same u v agree (t ∷ ts) h =
    (λ i. t.1 *ℤ one h.0.0 h.0.1 i +ℤ terms-same u v agree ts h.1 i)
  where
    one : (n : ℕ) → t.0 ≡ At n ∷ [] → mono_value u t.0 ≡ mono_value v t.0
    one n e = ap (mono_value u) e ∙ ap (λ x. x *ℤ pos 1) (agree n) ∙ sym (ap (mono_value v) e)

pub direction-same : (u v : Valuation) (d : Polynomial) → IsDirection d → ((n : ℕ) → u (At n) ≡ v (At n)) → value_of u d ≡ value_of v d
direction-same u v d direction agree = ap (λ x. x +ℤ d.rest) (terms-same u v agree d.terms direction.single)

terms-minus : (u v w : Valuation) → ((n : ℕ) → u (At n) -ℤ v (At n) ≡ w (At n)) → (ts : Terms) → AllByRecursion (λ t. (n : ℕ) × (t.0 ≡ At n ∷ [])) ts
    → terms_value u ts -ℤ terms_value v ts ≡ terms_value w ts
terms-minus u v w differ [] h = refl
terms-minus u v w differ (t ∷ ts) h = joined t.1 (mono_value u t.0) (mono_value v t.0) (mono_value w t.0) _ _ _ (one h.0.0 h.0.1) (terms-minus u v w differ ts h.1)
  where
    once : (x y z : ℤ) → x -ℤ y ≡ z → x *ℤ pos 1 -ℤ y *ℤ pos 1 ≡ z *ℤ pos 1
    once x y z e = omega (arith, ints)

    one : (n : ℕ) → t.0 ≡ At n ∷ [] → mono_value u t.0 -ℤ mono_value v t.0 ≡ mono_value w t.0
    one n e = (λ i. mono_value u (e i) -ℤ mono_value v (e i)) ∙ once (u (At n)) (v (At n)) (w (At n)) (differ n) ∙ sym (ap (mono_value w) e)

    apart : (b x y : ℤ) → b *ℤ (x -ℤ y) ≡ b *ℤ x -ℤ b *ℤ y
    apart b x y = simp ring (omega (arith, ints))

    joined : (b x y z s t r : ℤ) → x -ℤ y ≡ z → s -ℤ t ≡ r → b *ℤ x +ℤ s -ℤ (b *ℤ y +ℤ t) ≡ b *ℤ z +ℤ r
    joined b x y z s t r e k = let split : b *ℤ z ≡ b *ℤ x -ℤ b *ℤ y = ap (λ q. b *ℤ q) (sym e) ∙ apart b x y in omega (arith, ints)

pub direction-minus : (u v w : Valuation) (d : Polynomial) → IsDirection d → ((n : ℕ) → u (At n) -ℤ v (At n) ≡ w (At n)) → value_of w d ≡ value_of u d -ℤ value_of v d
direction-minus u v w d direction differ = done _ _ _ d.rest (terms-minus u v w differ d.terms direction.single) direction.plain
  where
    done : (x y z r : ℤ) → x -ℤ y ≡ z → r ≡ pos 0 → z +ℤ r ≡ x +ℤ r -ℤ (y +ℤ r)
    done x y z r e f = omega (arith, ints)

-- ---- rows

pub with_row-true : (at : Valuation) (rows : List Row) (made : Result Row TermError) → IsTrueIfMade at made → RowsHold at rows → Always (RowsHold at) (with_row rows made)
with_row-true at rows made row h = with_row-keeps (RowHolds at) rows made row.holds h

-- each adds a row that is true
pub each-true : {A : Type 0} (P : A → Type 0) (at : Valuation) (step : List Row → A → Posing (List Row)) (rows : List Row) (xs : List A)
    → ((rows : List Row) (x : A) → P x → RowsHold at rows → Always (RowsHold at) (step rows x)) → AllByRecursion P xs → RowsHold at rows → Always (RowsHold at) (each step rows xs)
each-true P at step rows xs kept all h = each-keeps (RowHolds at) P step rows xs kept all h

module _ (body : Transition) (steps : ℕ) (states : ℕ → List ℤ) (run : IsRunOf body steps states) where
  -- the objective has in each turn the value of a sequence
  pub record IsWorthAlong (objective : Case → Made) (quantity : ℕ → ℤ) : Type 0 where
    pub each : (case : Case) (i : ℕ) (aux : ℕ → ℤ) → i < steps → HoldsAt (numbers (states i) aux) case (states (i + 1)) → IsWorth (numbers (states i) aux) (objective case) (quantity i)

  -- the sequence is in no turn above a bound
  abbrev pub IsBelow : (ℕ → ℤ) → ℤ → Type 0
  IsBelow quantity most = (i : ℕ) → i < steps → quantity i ≤ℤ most

  abbrev pub IsBounded : (ℕ → ℤ) → Option ℤ → Type 0
  IsBounded quantity None = Unit {0}
  IsBounded quantity (Some most) = IsBelow quantity most

  -- the objective can be made and is nowhere above the bound
  abbrev IsBoundedIn : (Case → Made) → ℤ → Case → Type 0
  IsBoundedIn objective most case = (p : Polynomial) × (objective case ≡ Ok p) × IsAtMost most (record { rows = case.rows; objective = p })

  goals-bounded : (objective : Case → Made) (most : ℤ) (cases : List Case) (goals : List Goal) → goals_of objective cases ≡ Ok goals → AllByRecursion (IsAtMost most) goals → AllByRecursion (IsBoundedIn objective most) cases
  goals-bounded objective most [] goals e h = tt
  goals-bounded objective most (case ∷ cases) goals e h =
      on_ok (objective case) (λ p. gives.◌>>=◌ (goals_of objective cases) (λ rest. Ok (record { rows = case.rows; objective = p } ∷ rest))) goals e
      (λ p f g. on_ok (goals_of objective cases) (λ rest. Ok (record { rows = case.rows; objective = p } ∷ rest)) goals g
      (λ rest k l. let same : record { rows = case.rows; objective = p } ∷ rest ≡ goals = cc in
      let all : AllByRecursion (IsAtMost most) (record { rows = case.rows; objective = p } ∷ rest) = subst (AllByRecursion (IsAtMost most)) (sym same) h in
      ((p, f, all.0), goals-bounded objective most cases rest k all.1)))

  bounded-turns : (objective : Case → Made) (quantity : ℕ → ℤ) → IsWorthAlong objective quantity → (most : ℤ) → AllByRecursion (IsBoundedIn objective most) body.cases → IsBelow quantity most
  bounded-turns objective quantity worth most all i within =
      by_some body.cases (states i) (states (i + 1)) (quantity i ≤ℤ most)
      (λ case known (aux, holds).
      let found = known (IsBoundedIn objective most) all in
      subst (λ x. x ≤ℤ most) ((worth.each case i aux within holds).as_made found.0 found.1) (found.2 (numbers (states i) aux) holds.rows)) (run.links i within).some

  pub bound_of-bounds : (objective : Case → Made) (quantity : ℕ → ℤ) → IsWorthAlong objective quantity → Always (IsBounded quantity) (bound_of body.cases objective)
  unfolding bound_by ◌>>=◌
  bound_of-bounds objective quantity worth = go (goals_of objective body.cases) refl
    where
      told : (goals : List Goal) → goals_of objective body.cases ≡ Ok goals → (a : Answer) → IsTrueAnswer (Sup goals) a → IsBounded quantity (bound_in a)
      told goals e (answer.Yes by) is_true = tt
      told goals e (answer.No point) is_true = tt
      told goals e (answer.Bound at certs case point) is_true = bounded-turns objective quantity worth at (goals-bounded objective at body.cases goals e is_true)
      told goals e (answer.Unbounded case point ray) is_true = tt
      told goals e (answer.Basis relations spots free) is_true = tt
      told goals e (answer.Limit limit) is_true = tt

      go : (r : Result (List Goal) TermError) → goals_of objective body.cases ≡ r → Always (IsBounded quantity) (bound_by r)
      go (Ok goals) e = λ a is_true. told goals e a is_true
      go (Err fault) e = tt

  -- a bound's row is true where the bound says so
  pub bounded-true : (at : Valuation) (objective : Case → Made) (row : ℤ → Result Row TermError) (quantity : ℕ → ℤ) (rows : List Row) → IsWorthAlong objective quantity
      → ((most : ℤ) → IsBelow quantity most → IsTrueIfMade at (row most)) → RowsHold at rows → Always (RowsHold at) (rows_with_bound body.cases objective row rows)
  unfolding rows_with_bound
  bounded-true at objective row quantity rows worth tells h =
      always_bind (IsBounded quantity) (RowsHold at) (bound_of body.cases objective) (λ most. with_row_for rows row most) (bound_of-bounds objective quantity worth) go
    where
      go : (most : Option ℤ) → IsBounded quantity most → Always (RowsHold at) (with_row_for rows row most)
      go None bound = h
      go (Some most) bound = with_row-true at rows (row most) (tells most bound) h

  -- ---- bounds before, after and on differences

  -- the value of a direction at each state
  abbrev pub along : Polynomial → ℕ → ℤ
  along d i = value_of (of_state (states i)) d

  before-worth : (d : Polynomial) → IsDirection d → IsWorthAlong (λ case. Ok d) (along d)
  before-worth d direction = record {
    each = λ case i aux within holds. IsWorth-same (direction-same (numbers (states i) aux) (of_state (states i)) d direction (λ n. refl)) (IsWorth-Ok (numbers (states i) aux) d);
  }

  after-worth : (d : Polynomial) → IsWorthAlong (λ case. put_in_for case.post d) (λ i. along d (i + 1))
  after-worth d = record {
    each = λ case i aux within holds.
        IsWorth-put_into (numbers (states i) aux) (for_entries (λ v. Ok (poly_at case.post v))) (of_state (states (i + 1))) (record { each = reads case i aux holds }) d;
  }
    where
      reads : (case : Case) (i : ℕ) (aux : ℕ → ℤ) → HoldsAt (numbers (states i) aux) case (states (i + 1)) → (c : Col) → IsWorth (numbers (states i) aux) (for_entries (λ v. Ok (poly_at case.post v)) c) (of_state (states (i + 1)) c)
      reads case i aux holds (At v) = post-worth case (states i) (states (i + 1)) aux holds v
      reads case i aux holds (Aux n) = IsWorth-whole (numbers (states i) aux) (pos 0)

  change-worth-along : (d : Polynomial) → IsDirection d → IsWorthAlong (λ case. put_into (for_entries (change true case)) d) (λ i. along d (i + 1) -ℤ along d i)
  change-worth-along d direction = record {
    each = λ case i aux within holds.
        IsWorth-same (direction-minus (of_state (states (i + 1))) (of_state (states i)) (between (states i) (states (i + 1))) d direction (λ n. refl))
        (IsWorth-put_into (numbers (states i) aux) (for_entries (change true case)) (between (states i) (states (i + 1))) (record { each = reads case i aux holds }) d);
  }
    where
      reads : (case : Case) (i : ℕ) (aux : ℕ → ℤ) → HoldsAt (numbers (states i) aux) case (states (i + 1)) → (c : Col) → IsWorth (numbers (states i) aux) (for_entries (change true case) c) (between (states i) (states (i + 1)) c)
      reads case i aux holds (At v) = change-worth case (states i) (states (i + 1)) aux holds true v
      reads case i aux holds (Aux n) = IsWorth-whole (numbers (states i) aux) (pos 0)

  -- changes that are at most a number are together at most so many times it
  sum-of-changes : (u : ℕ → ℤ) (most : ℤ) → ((i : ℕ) → i < steps → (u (i + 1) -ℤ u i) ≤ℤ most) → (n : ℕ) → n ≤ steps → (u n -ℤ u 0) ≤ℤ (most *ℤ pos n)
  sum-of-changes u most grows zero within = none (u 0) most
    where
      none : (x c : ℤ) → (x -ℤ x) ≤ℤ (c *ℤ pos 0)
      none x c = omega (arith, ints)
  sum-of-changes u most grows (suc n) within =
      step (u (suc n)) (u n) (u 0) most (pos n) (pos (suc n)) (pos-suc n) (subst (λ j. (u j -ℤ u n) ≤ℤ most) (next n) (grows n (omega arith))) (sum-of-changes u most grows n (omega arith))
    where
      next : (n : ℕ) → n + 1 ≡ suc n
      next n = omega arith

      pos-suc : (n : ℕ) → pos (suc n) ≡ pos n +ℤ pos 1
      pos-suc n = omega (arith, ints)

      spread : (c m : ℤ) → c *ℤ (m +ℤ pos 1) ≡ c *ℤ m +ℤ c
      spread c m = simp ring (omega (arith, ints))

      step : (x y z c m m1 : ℤ) → m1 ≡ m +ℤ pos 1 → (x -ℤ y) ≤ℤ c → (y -ℤ z) ≤ℤ (c *ℤ m) → (x -ℤ z) ≤ℤ (c *ℤ m1)
      step x y z c m m1 e f g = let split : c *ℤ m1 ≡ c *ℤ m +ℤ c = ap (λ k. c *ℤ k) e ∙ spread c m in omega (arith, ints)

  -- ---- the rows over the run

  -- numbers for the columns of a case of the whole run: entry columns at the start, polynomials for
  -- the variables and their changes, and the number of turns
  pub record IsOver (at : Valuation) (after moved : List Polynomial) (turns : Option Col) : Type 0 where
    pub starts : Reads at (states 0)
    pub ends : (v : ℕ) → value_of at (poly_at after v) ≡ number_in (states steps) v
    pub moves : (v : ℕ) → value_of at (poly_at moved v) ≡ number_in (states steps) v -ℤ number_in (states 0) v
    pub so_many : (most : ℤ) → IsWorth at (so_often turns (whole most)) (most *ℤ pos steps)
    pub some : 0 < steps

  module _ (at : Valuation) (after moved : List Polynomial) (turns : Option Col) (over : IsOver at after moved turns) where
    below : (x c : ℤ) → x ≤ℤ c → (x -ℤ c) ≤ℤ pos 0
    below x c e = omega (arith, ints)

    pub before-true : (rows : List Row) (d : Polynomial) → IsDirection d → RowsHold at rows → Always (RowsHold at) (rows_with_entry_bound body.cases rows d)
    before-true rows d direction h =
        bounded-true at (λ case. Ok d) (before_row d) (along d) rows (before-worth d direction)
        (λ most bound. IsTrueIfMade-at_most (IsWorth-difference (IsWorth-same (direction-same at (of_state (states 0)) d direction over.starts.each) (IsWorth-Ok at d)) (IsWorth-whole at most))
        (below (along d 0) most (bound 0 over.some))) h

    after-reads : (c : Col) → IsWorth at (for_entries (λ v. Ok (poly_at after v)) c) (of_state (states steps) c)
    after-reads (At v) = IsWorth-same (over.ends v) (IsWorth-Ok at (poly_at after v))
    after-reads (Aux n) = IsWorth-whole at (pos 0)

    pub after-true : (rows : List Row) (d : Polynomial) → RowsHold at rows → Always (RowsHold at) (rows_with_exit_bound body.cases after rows d)
    after-true rows d h =
        bounded-true at (λ case. put_in_for case.post d) (after_row after d) (λ i. along d (i + 1)) rows (after-worth d)
        (λ most bound. IsTrueIfMade-at_most (IsWorth-difference (IsWorth-put_into at (for_entries (λ v. Ok (poly_at after v))) (of_state (states steps)) (record { each = after-reads }) d) (IsWorth-whole at most))
        (below (along d steps) most (subst (λ n. along d n ≤ℤ most) (last steps over.some) (bound (steps - 1) (before_end steps over.some))))) h
      where
        last : (n : ℕ) → 0 < n → n - 1 + 1 ≡ n
        last n e = omega arith

        before_end : (n : ℕ) → 0 < n → n - 1 < n
        before_end n e = omega arith

    moved-reads : (c : Col) → IsWorth at (for_entries (λ v. Ok (poly_at moved v)) c) (between (states 0) (states steps) c)
    moved-reads (At v) = IsWorth-same (over.moves v) (IsWorth-Ok at (poly_at moved v))
    moved-reads (Aux n) = IsWorth-whole at (pos 0)

    pub change-true : (rows : List Row) (d : Polynomial) → IsDirection d → RowsHold at rows → Always (RowsHold at) (bounded_change body.cases moved turns rows d)
    change-true rows d direction h =
        bounded-true at (λ case. put_into (for_entries (change true case)) d) (change_row moved turns d) (λ i. along d (i + 1) -ℤ along d i) rows (change-worth-along d direction)
        (λ most bound. IsTrueIfMade-at_most
        (IsWorth-difference
        (IsWorth-same (direction-minus (of_state (states steps)) (of_state (states 0)) (between (states 0) (states steps)) d direction (λ n. refl))
        (IsWorth-put_into at (for_entries (λ v. Ok (poly_at moved v))) (between (states 0) (states steps)) (record { each = moved-reads }) d))
        (over.so_many most))
        (below (along d steps -ℤ along d 0) (most *ℤ pos steps) (sum-of-changes (along d) most bound steps (itself steps)))) h
      where
        itself : (n : ℕ) → n ≤ n
        itself n = omega arith
