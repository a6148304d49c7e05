-- A solved equation says what its auxiliary is, and its solution can be put in for it.
use Rattle.std.proofs.Common.{◌≡◌, ◌⊎◌, inl, inr, ℕ, zero, suc, ◌+◌, ◌-◌, ◌<◌, ◌==◌, Bool, true, false, cond, ℤ, pos, negsuc, ◌+ℤ◌, ◌*ℤ◌, length, get_or, List, [], ◌∷◌, Option, Some, None, Result, Ok, Err, refl, sym, ap, subst, ◌∙◌, arith}
use Rattle.std.specs.Prelude.{◌↔◌, ◌&&◌, ◌||◌, IsTrue, not, nat_lt, slice_get, unwrap_or, count_by}
use Rattle.std.specs.List.{AllByRecursion, list_any, filter, flat_map, remove}
use Rattle.std.specs.Option.{option_map}
use Rattle.std.specs.Ordering.{eq_by_cmp, int_eq, is_eq}
use Rattle.std.specs.Cmp.{eq_by_cmp_equiv}
use Rattle.std.specs.declared.cmp.Ordering.{Ordering}
use Rattle.std.specs.declared.cmp.Ordering.TheVariants as order
use Rattle.std.proofs.lemmas.Int.{ints}
use Rattle.std.proofs.lemmas.Bool.Decides.{Decides-int_eq, Decides-eqb}
use Rattle.std.proofs.lemmas.List.Sums.{sum_by-cons}
use Rattle.linear_terms.specs.declared.col.Col.{Col}
use Rattle.linear_terms.specs.declared.col.Col.TheVariants.{At, Aux}
use Rattle.linear_terms.specs.declared.error.TermError.{TermError}
use Rattle.linear_terms.specs.declared.row.Kind.{Kind}
use Rattle.linear_terms.specs.declared.row.Kind.TheVariants.{AtMost, Equal}
use Rattle.linear_terms.specs.declared.row.Row.{Row}
use Rattle.linear_terms.specs.declared.row.Case.{Case}
use Rattle.linear_terms.specs.Auxiliaries.{is_auxiliary, has_auxiliary, occurs, without, put_for, is_numbered}
use Rattle.linear_terms.specs.Mono.{mono_cmp}
use Rattle.linear_terms.specs.MonoOrder.{mono_cmp_total}
use Rattle.linear_terms.specs.Operations.{multiple_of, substituted_polynomial}
use Rattle.linear_terms.specs.Polynomial.{Terms, Polynomial, column_of, coefficient_in}
use Rattle.linear_terms.specs.Row.{IsWithin, RowHolds, RowsHold}
use Rattle.linear_terms.specs.Value.{Valuation, mono_value, terms_value, value_of}
use Rattle.linear_terms.proofs.Columns.{EachColumn, multiple_of-each}
use Rattle.linear_terms.proofs.Order.{mono_tie}
use Rattle.linear_terms.proofs.Values.{multiple_of-value, substituted-value}
use Rattle.transition_formula.specs.Composition.{Operation, by, losses_by}
use Rattle.transition_formula.specs.Loss.{losses_of}
use Rattle.transition_formula.specs.Meaning.{numbers, HoldsAt, HoldsCase}
use Rattle.transition_formula.specs.Order.{solves, or_else, first_solved, solvable_auxiliary, place_from, first_equation, solution, with_solution}
use Rattle.transition_formula.specs.Rounds.{with_rows, with_solved, losses_with_solved}
use Rattle.transition_formula.specs.Transition.{every_column}
use Rattle.transition_formula.proofs.CarriedColumns.{solution-passes}
use Rattle.transition_formula.proofs.ColumnTests.{both, test_from_columns}
use Rattle.transition_formula.proofs.Meanings.{not-below}
use Rattle.transition_formula.proofs.Numbers.{Numbered, numbered}
use Rattle.transition_formula.proofs.Rounding.{AllNumbered, found_at, test_got, test_removed}
use Rattle.transition_formula.proofs.NotedErrors.{lost-some, solution-tells, with_solution-tells}
use Rattle.transition_formula.proofs.Values.{Keeps, lost_values, column-value, value-agrees, none-of, rows_by-hold, rows_by-held, posts_by-values, posts_by-kept}

-- ---- the one term that has the auxiliary

abbrev has : ℕ → List Col × ℤ → Bool
has n t = has_auxiliary n t.0

abbrev others : ℕ → Terms → Terms
others n ts = filter (λ t. not (has_auxiliary n t.0)) ts

-- the term is there
abbrev There : ℕ → ℤ → Terms → Type 0
There n number [] = ⊥
There n number (t ∷ ts) = (t ≡ ((Aux n ∷ []), number)) ⊎ There n number ts

-- the value of the terms, and the coefficient of the auxiliary, which is `number`
record Single (n : ℕ) (number : ℤ) (ts : Terms) : Type 0 where
  value : (at : Valuation) → terms_value at ts ≡ number *ℤ at (Aux n) +ℤ terms_value at (others n ts)
  coefficient : coefficient_in ts (Aux n ∷ []) ≡ number

count-cons : (n : ℕ) (t : List Col × ℤ) (ts : Terms) → count_by (has n) (t ∷ ts) ≡ cond (has n t) 1 0 + count_by (has n) ts
count-cons n t ts = sum_by-cons (λ x. cond (has n x) 1 0) t ts

own : (n : ℕ) → is_auxiliary n (Aux n) || false ≡ true
own n = ap (λ b. b || false) ((Decides-eqb n n).1 refl)

counted : (n : ℕ) (number : ℤ) (ts : Terms) → There n number ts → 0 < count_by (has n) ts
counted n number [] h = absurd h
counted n number (t ∷ ts) (inl same) = let here : ◌≡◌ {A = ℕ} (cond (has n t) 1 0) 1 = ap (λ (u : List Col × ℤ). cond (has n u) 1 0) same ∙ ap (λ b. cond b 1 0) (own n) in omega (arith, count-cons n t ts, here)
counted n number (t ∷ ts) (inr later) = let more = counted n number ts later in omega (arith, count-cons n t ts)

kept_all : (n : ℕ) (ts : Terms) → count_by (has n) ts ≡ 0 → (at : Valuation) → terms_value at (others n ts) ≡ terms_value at ts
kept_all n [] none at = refl
kept_all n (t ∷ ts) none at = go (has n t) (sym (count-cons n t ts) ∙ none) (λ e. kept_all n ts e at)
  where
    go : (b : Bool) → cond b 1 0 + count_by (has n) ts ≡ 0 → (count_by (has n) ts ≡ 0 → terms_value at (others n ts) ≡ terms_value at ts) → terms_value at (cond (not b) (t ∷ others n ts) (others n ts)) ≡ terms_value at (t ∷ ts)
    go true e ih = absurd (omega (arith, e))
    go false e ih = let rest = ih (omega (arith, e)) in ap (λ v. t.1 *ℤ mono_value at t.0 +ℤ v) rest

is_tie : (o : Ordering) → is_eq o ≡ true → o ≡ order.Equal
is_tie order.Less e = cc
is_tie order.Equal e = refl
is_tie order.Greater e = cc

same_mono : (m n : List Col) → eq_by_cmp mono_cmp m n ≡ true → m ≡ n
same_mono m n e = mono_tie m n (is_tie (mono_cmp m n) e)

single : (n : ℕ) (number : ℤ) (ts : Terms) → count_by (has n) ts ≡ 1 → There n number ts → Single n number ts
single n number [] one h = absurd h
single n number (t ∷ ts) one (inl same) =
    let here : has n t ≡ true = ap (λ (u : List Col × ℤ). has n u) same ∙ own n in
    let none : count_by (has n) ts ≡ 0 = let c : ◌≡◌ {A = ℕ} (cond (has n t) 1 0) 1 = ap (λ b. cond b 1 0) here in omega (arith, count-cons n t ts, c) in
    record {
      value = λ at.
          ap (λ (u : List Col × ℤ). u.1 *ℤ mono_value at u.0 +ℤ terms_value at ts) same
          ∙ once number (at (Aux n)) (terms_value at ts)
          ∙ ap (λ v. number *ℤ at (Aux n) +ℤ v) (sym (kept_all n ts none at))
          ∙ ap (λ b. number *ℤ at (Aux n) +ℤ terms_value at (cond (not b) (t ∷ others n ts) (others n ts))) (sym here);
      coefficient =
          ap (λ (u : List Col × ℤ). cond (eq_by_cmp mono_cmp u.0 (Aux n ∷ [])) u.1 (coefficient_in ts (Aux n ∷ []))) same
          ∙ ap (λ b. cond b number (coefficient_in ts (Aux n ∷ []))) ((eq_by_cmp_equiv mono_cmp_total).refl (Aux n ∷ []));
    }
  where
    once : (x y z : ℤ) → x *ℤ (y *ℤ pos 1) +ℤ z ≡ x *ℤ y +ℤ z
    once x y z = let e : y *ℤ pos 1 ≡ y = omega (arith, ints) in ap (λ v. x *ℤ v +ℤ z) e
single n number (t ∷ ts) one (inr later) = go (has n t) refl (sym (count-cons n t ts) ∙ one) (λ e. single n number ts e later)
  where
    other : has n t ≡ false → eq_by_cmp mono_cmp t.0 (Aux n ∷ []) ≡ false
    other h = no (eq_by_cmp mono_cmp t.0 (Aux n ∷ [])) refl
      where
        clash : true ≡ false → ⊥
        clash e = cc

        no : (b : Bool) → eq_by_cmp mono_cmp t.0 (Aux n ∷ []) ≡ b → b ≡ false
        no true e = absurd (clash (sym (ap (λ m. has_auxiliary n m) (same_mono t.0 (Aux n ∷ []) e) ∙ own n) ∙ h))
        no false e = refl

    swap : (x y z w : ℤ) → w ≡ y +ℤ z → x +ℤ w ≡ y +ℤ (x +ℤ z)
    swap x y z w e = omega (arith, ints)

    go : (b : Bool) → has n t ≡ b → cond b 1 0 + count_by (has n) ts ≡ 1 → (count_by (has n) ts ≡ 1 → Single n number ts) → Single n number (t ∷ ts)
    go true h e ih = let more = counted n number ts later in absurd (omega (arith, e))
    go false h e ih =
        let rest = ih (omega (arith, e)) in
        record {
          value = λ at.
              swap (t.1 *ℤ mono_value at t.0) (number *ℤ at (Aux n)) (terms_value at (others n ts)) (terms_value at ts) (rest.value at)
              ∙ ap (λ b. number *ℤ at (Aux n) +ℤ terms_value at (cond (not b) (t ∷ others n ts) (others n ts))) (sym h);
          coefficient = ap (λ b. cond b t.1 (coefficient_in ts (Aux n ∷ []))) (other h) ∙ rest.coefficient;
        }

-- ---- an equation that can be solved

pub record Solvable (n : ℕ) (all ts : Terms) : Type 0 where
  pub number : ℤ
  pub unit : (number ≡ pos 1) ⊎ (number ≡ negsuc 0)
  pub once : count_by (has n) all ≡ 1
  pub there : There n number ts

record Solves (n : ℕ) (all : Terms) (m : List Col) (number : ℤ) : Type 0 where
  alone : m ≡ Aux n ∷ []
  unit : (number ≡ pos 1) ⊎ (number ≡ negsuc 0)
  once : count_by (has n) all ≡ 1

solves-term : (n : ℕ) (all : Terms) (m : List Col) (number : ℤ) → solves all (m, number) ≡ Some n → Solves n all m number
solves-term n all [] number e = cc
solves-term n all (At k ∷ more) number e = cc
solves-term n all (Aux k ∷ c ∷ more) number e = cc
solves-term n all (Aux k ∷ []) number e = go ((int_eq number (pos 1) || int_eq number (negsuc 0)) && count_by (has k) all == 1) refl e
  where
    units : (b : Bool) → int_eq number (pos 1) ≡ b → b || int_eq number (negsuc 0) ≡ true → (number ≡ pos 1) ⊎ (number ≡ negsuc 0)
    units true f g = inl ((Decides-int_eq number (pos 1)).0 f)
    units false f g = inr ((Decides-int_eq number (negsuc 0)).0 g)

    go : (b : Bool) → ((int_eq number (pos 1) || int_eq number (negsuc 0)) && count_by (has k) all == 1) ≡ b → cond b (Some k) None ≡ Some n → Solves n all (Aux k ∷ []) number
    go true f g =
        let same : k ≡ n = cc in
        let parts = both (int_eq number (pos 1) || int_eq number (negsuc 0)) (count_by (has k) all == 1) f in
        record {
          alone = ap (λ i. Aux i ∷ []) same;
          unit = units (int_eq number (pos 1)) refl parts.0;
          once = subst (λ i. count_by (has i) all ≡ 1) same ((Decides-eqb (count_by (has k) all) 1).0 parts.1);
        }
    go false f g = cc

first_solved-solvable : (n : ℕ) (all ts : Terms) → first_solved all ts ≡ Some n → Solvable n all ts
first_solved-solvable n all [] e = cc
first_solved-solvable n all (t ∷ ts) e = go (solves all t) refl e (λ f. first_solved-solvable n all ts f)
  where
    go : (o : Option ℕ) → solves all t ≡ o → or_else o (first_solved all ts) ≡ Some n → (first_solved all ts ≡ Some n → Solvable n all ts) → Solvable n all (t ∷ ts)
    go (Some k) f g ih =
        let s = solves-term n all t.0 t.1 (f ∙ g) in
        record { number = t.1; unit = s.unit; once = s.once; there = inl (λ i. (s.alone i, t.1)) }
    go None f g ih = let later = ih g in record { number = later.number; unit = later.unit; once = later.once; there = inr later.there }

-- the row is an equation, and one that can be solved
pub record CanSolve (n : ℕ) (row : Row) : Type 0 where
  pub equation : row.kind ≡ Equal
  pub solvable : Solvable n row.poly.terms row.poly.terms

can_solve : (n : ℕ) (row : Row) → solvable_auxiliary row.kind row.poly ≡ Some n → CanSolve n row
can_solve n row e = go row.kind refl e
  where
    go : (k : Kind) → row.kind ≡ k → solvable_auxiliary k row.poly ≡ Some n → CanSolve n row
    go AtMost f g = cc
    go Equal f g = record { equation = f; solvable = first_solved-solvable n row.poly.terms row.poly.terms g }

abbrev origin : ℕ × ℕ
origin = (0, 0)

pub found-can_solve : (rows : List Row) (place n : ℕ) (row : Row) → found_at place n ≡ first_equation rows → Some row ≡ slice_get rows place → CanSolve n row
found-can_solve [] place n row e f = cc
found-can_solve (r ∷ rows) zero n row e f = go (solvable_auxiliary r.kind r.poly) refl (first_equation rows) e
  where
    same : row ≡ r
    same = cc

    never : (o : Option (ℕ × ℕ)) → found_at 0 n ≡ option_map (λ found. (found.0 + 1, found.1)) o → ⊥
    never None g = cc
    never (Some found) g = let at : 0 ≡ found.0 + 1 = ap (λ p. (unwrap_or p origin).0) g in omega (arith, at)

    go : (o : Option ℕ) → solvable_auxiliary r.kind r.poly ≡ o → (p : Option (ℕ × ℕ)) → found_at 0 n ≡ place_from o p → CanSolve n row
    go (Some m) g p h = let is : n ≡ m = ap (λ q. (unwrap_or q origin).1) h in subst (CanSolve n) (sym same) (can_solve n r (g ∙ ap (λ i. Some i) (sym is)))
    go None g p h = absurd (never p h)
found-can_solve (r ∷ rows) (suc place) n row e f = go (solvable_auxiliary r.kind r.poly) (first_equation rows) e (λ g. found-can_solve rows place n row g f)
  where
    later : (o : Option (ℕ × ℕ)) → found_at (suc place) n ≡ option_map (λ found. (found.0 + 1, found.1)) o → (found_at place n ≡ o → CanSolve n row) → CanSolve n row
    later None g ih = cc
    later (Some found) g ih =
        let at : suc place ≡ found.0 + 1 = ap (λ p. (unwrap_or p origin).0) g in
        let is : n ≡ found.1 = ap (λ p. (unwrap_or p origin).1) g in
        let here : place ≡ found.0 = omega (arith, at) in
        ih (λ i. found_at (here i) (is i))

    go : (o : Option ℕ) (p : Option (ℕ × ℕ)) → found_at (suc place) n ≡ place_from o p → (found_at place n ≡ p → CanSolve n row) → CanSolve n row
    go (Some m) p g ih = let at : suc place ≡ 0 = ap (λ q. (unwrap_or q origin).0) g in absurd (omega (arith, at))
    go None p g ih = later p g ih

-- ---- what its solution is

solution-is : (n : ℕ) (p q : Polynomial) → Solvable n p.terms p.terms → solution p n ≡ Ok q → (at : Valuation) → (value_of at p ≡ pos 0) ↔ (at (Aux n) ≡ value_of at q)
solution-is n p q s e at = go (int_eq (coefficient_in p.terms (Aux n ∷ [])) (negsuc 0)) refl e
  where
    one : Single n s.number p.terms
    one = single n s.number p.terms s.once s.there

    rest : ℤ
    rest = terms_value at (others n p.terms)

    minus : (c x w r z y : ℤ) → c ≡ negsuc 0 → z ≡ c *ℤ x +ℤ w → y ≡ w +ℤ r → (z +ℤ r ≡ pos 0) ↔ (x ≡ y)
    minus c x w r z y e f g = let h : z ≡ negsuc 0 *ℤ x +ℤ w = f ∙ ap (λ d. d *ℤ x +ℤ w) e in (λ k. omega (arith, ints, h, g, k), λ k. omega (arith, ints, h, g, k))

    plus : (c x w r z y : ℤ) → c ≡ pos 1 → z ≡ c *ℤ x +ℤ w → y ≡ (w +ℤ r) *ℤ negsuc 0 → (z +ℤ r ≡ pos 0) ↔ (x ≡ y)
    plus c x w r z y e f g = let h : z ≡ pos 1 *ℤ x +ℤ w = f ∙ ap (λ d. d *ℤ x +ℤ w) e in (λ k. omega (arith, ints, h, g, k), λ k. omega (arith, ints, h, g, k))

    positive : (u : (s.number ≡ pos 1) ⊎ (s.number ≡ negsuc 0)) → int_eq (coefficient_in p.terms (Aux n ∷ [])) (negsuc 0) ≡ false → s.number ≡ pos 1
    positive (inl h) f = h
    positive (inr h) f = let yes : int_eq (coefficient_in p.terms (Aux n ∷ [])) (negsuc 0) ≡ true = (Decides-int_eq (coefficient_in p.terms (Aux n ∷ [])) (negsuc 0)).1 (one.coefficient ∙ h) in absurd (clash (sym yes ∙ f))
      where
        clash : true ≡ false → ⊥
        clash e = cc

    go : (b : Bool) → int_eq (coefficient_in p.terms (Aux n ∷ [])) (negsuc 0) ≡ b → cond b (Ok (without n p)) (multiple_of (without n p) (negsuc 0)) ≡ Ok q → (value_of at p ≡ pos 0) ↔ (at (Aux n) ≡ value_of at q)
    go true f g =
        let same : without n p ≡ q = cc in
        let number = sym one.coefficient ∙ (Decides-int_eq (coefficient_in p.terms (Aux n ∷ [])) (negsuc 0)).0 f in
        minus s.number (at (Aux n)) rest p.rest (terms_value at p.terms) (value_of at q) number (one.value at) (ap (value_of at) (sym same))
    go false f g = plus s.number (at (Aux n)) rest p.rest (terms_value at p.terms) (value_of at q) (positive s.unit f) (one.value at) (multiple_of-value at (without n p) (negsuc 0) q g)

-- ---- a polynomial without the auxiliary

abbrev pub is_other : ℕ → Col → Bool
is_other n c = not (is_auxiliary n c)

none_has : (n : ℕ) (m : List Col) → IsTrue (not (has_auxiliary n m)) → AllByRecursion (λ c. IsTrue (is_other n c)) m
none_has n [] h = tt
none_has n (c ∷ m) h = go (is_auxiliary n c) refl h (λ k. none_has n m k)
  where
    go : (b : Bool) → is_auxiliary n c ≡ b → IsTrue (not (b || has_auxiliary n m)) → (IsTrue (not (has_auxiliary n m)) → AllByRecursion (λ d. IsTrue (is_other n d)) m) → AllByRecursion (λ d. IsTrue (is_other n d)) (c ∷ m)
    go true e k ih = cc
    go false e k ih = (ap not e, ih k)

others-lack : (n : ℕ) (ts : Terms) → EachColumn (λ c. IsTrue (is_other n c)) (others n ts)
others-lack n [] = tt
others-lack n (t ∷ ts) = go (not (has n t)) refl (others-lack n ts)
  where
    go : (b : Bool) → not (has n t) ≡ b → EachColumn (λ c. IsTrue (is_other n c)) (others n ts) → EachColumn (λ c. IsTrue (is_other n c)) (cond b (t ∷ others n ts) (others n ts))
    go true e later = (none_has n t.0 e, later)
    go false e later = later

solution-lacks : (n : ℕ) (p q : Polynomial) → solution p n ≡ Ok q → IsTrue (every_column (is_other n) q)
solution-lacks n p q e = test_from_columns (is_other n) q (go (int_eq (coefficient_in p.terms (Aux n ∷ [])) (negsuc 0)) e)
  where
    go : (b : Bool) → cond b (Ok (without n p)) (multiple_of (without n p) (negsuc 0)) ≡ Ok q → EachColumn (λ c. IsTrue (is_other n c)) q.terms
    go true f = let same : without n p ≡ q = cc in subst (λ r. EachColumn (λ c. IsTrue (is_other n c)) r.terms) same (others-lack n p.terms)
    go false f = multiple_of-each (λ c. IsTrue (is_other n c)) (without n p) (negsuc 0) q f (others-lack n p.terms)

no_term : (n : ℕ) (ts : Terms) → list_any (λ t. has_auxiliary n t.0) ts ≡ false → EachColumn (λ c. IsTrue (is_other n c)) ts
no_term n [] h = tt
no_term n (t ∷ ts) h = go (has n t) refl h (λ k. no_term n ts k)
  where
    go : (b : Bool) → has n t ≡ b → b || list_any (λ u. has_auxiliary n u.0) ts ≡ false → (list_any (λ u. has_auxiliary n u.0) ts ≡ false → EachColumn (λ c. IsTrue (is_other n c)) ts) → EachColumn (λ c. IsTrue (is_other n c)) (t ∷ ts)
    go true e k ih = cc
    go false e k ih = (none_has n t.0 (ap not e), ih k)

absent-lacks : (n : ℕ) (p : Polynomial) → occurs n p ≡ false → IsTrue (every_column (is_other n) p)
absent-lacks n p h = test_from_columns (is_other n) p (no_term n p.terms h)

-- ---- the solution put in: numbers for what is lost, and for the auxiliary that is gone

module _ (case : Case) (n : ℕ) (q : Polynomial) (all : Numbered case) (before after : List ℤ) (aux : ℕ → ℤ) where
  abbrev op : Operation
  op = with_solution n q

  -- numbers for the posts that are lost
  abbrev with_lost_aux : List ℤ → ℕ → ℤ
  with_lost_aux values m = cond (nat_lt m case.aux) (aux m) (get_or values (m - case.aux) (pos 0))

  old : (values : List ℤ) (c : Col) → IsTrue (is_numbered case.aux c) → numbers before aux c ≡ numbers before (with_lost_aux values) c
  old values (At m) h = refl
  old values (Aux m) h = sym (ap (λ b. cond b (aux m) (get_or values (m - case.aux) (pos 0))) h)

  new : (values : List ℤ) (k : ℕ) → k < length values → numbers before (with_lost_aux values) (Aux (case.aux + k)) ≡ get_or values k (pos 0)
  new values k lt =
      let back : case.aux + k - case.aux ≡ k = omega arith in
      ap (λ b. cond b (aux (case.aux + k)) (get_or values (case.aux + k - case.aux) (pos 0))) (not-below (case.aux + k) case.aux (omega arith)) ∙ ap (λ j. get_or values j (pos 0)) back

  module _ (is : aux n ≡ value_of (numbers before aux) q) (q_numbered : IsTrue (every_column (is_numbered case.aux) q)) (values : List ℤ) where
    seen : (c : Col) → IsTrue (is_numbered case.aux c) → value_of (numbers before (with_lost_aux values)) (put_for n q c) ≡ numbers before aux c
    seen (At m) h = column-value (numbers before (with_lost_aux values)) (At m)
    seen (Aux m) h = go (m == n) refl
      where
        go : (b : Bool) → (m == n) ≡ b → value_of (numbers before (with_lost_aux values)) (cond b q (column_of (Aux m))) ≡ aux m
        go true e = sym (value-agrees (numbers before aux) (numbers before (with_lost_aux values)) (is_numbered case.aux) (old values) q q_numbered) ∙ sym is ∙ ap aux (sym ((Decides-eqb m n).0 e))
        go false e = column-value (numbers before (with_lost_aux values)) (Aux m) ∙ sym (old values (Aux m) h)

    put-keeps : Keeps op (is_numbered case.aux) (numbers before aux) (numbers before (with_lost_aux values))
    put-keeps = record { tells = with_solution-tells n q; value = λ p r e h. go (occurs n p) p r e h }
      where
        go : (b : Bool) (p r : Polynomial) → cond b (substituted_polynomial (put_for n q) p) (Ok p) ≡ Ok r → IsTrue (every_column (is_numbered case.aux) p) → value_of (numbers before (with_lost_aux values)) r ≡ value_of (numbers before aux) p
        go true p r e h =
            substituted-value (numbers before (with_lost_aux values)) (put_for n q) p r e
            ∙ value-agrees (λ c. value_of (numbers before (with_lost_aux values)) (put_for n q c)) (numbers before aux) (is_numbered case.aux) seen p h
        go false p r e h =
            let same : p ≡ r = cc in
            ap (value_of (numbers before (with_lost_aux values))) (sym same) ∙ sym (value-agrees (numbers before aux) (numbers before (with_lost_aux values)) (is_numbered case.aux) (old values) p h)

  put-hold : aux n ≡ value_of (numbers before aux) q → IsTrue (every_column (is_numbered case.aux) q) → HoldsAt (numbers before aux) case after → HoldsCase (by op case) before after
  put-hold is q_numbered h =
      let values = lost_values op (numbers before aux) case.post in
      let keeps = put-keeps is q_numbered values in (
        with_lost_aux values,
        record {
          rows = rows_by-hold op (is_numbered case.aux) (numbers before aux) (numbers before (with_lost_aux values)) keeps case.rows all.rows h.rows;
          posts = posts_by-values op (is_numbered case.aux) (numbers before aux) (numbers before (with_lost_aux values)) keeps case.aux case.post all.posts (new values) ∙ h.posts;
        },
      )

  -- the number of the auxiliary that is gone
  abbrev with_solved_aux : ℕ → ℤ
  with_solved_aux m = cond (m == n) (value_of (numbers before aux) q) (aux m)

  apart : (c : Col) → IsTrue (is_other n c) → numbers before aux c ≡ numbers before with_solved_aux c
  apart (At m) h = refl
  apart (Aux m) h = sym (ap (λ b. cond b (value_of (numbers before aux) q) (aux m)) (no (m == n) h))
    where
      no : (b : Bool) → not b ≡ true → b ≡ false
      no true e = cc
      no false e = refl

  seen_back : (c : Col) → IsTrue (is_numbered case.aux c) → value_of (numbers before aux) (put_for n q c) ≡ numbers before with_solved_aux c
  seen_back (At m) h = column-value (numbers before aux) (At m)
  seen_back (Aux m) h = go (m == n)
    where
      go : (b : Bool) → value_of (numbers before aux) (cond b q (column_of (Aux m))) ≡ cond b (value_of (numbers before aux) q) (aux m)
      go true = refl
      go false = column-value (numbers before aux) (Aux m)

  back-keeps : Keeps op (is_numbered case.aux) (numbers before with_solved_aux) (numbers before aux)
  back-keeps = record { tells = with_solution-tells n q; value = λ p r e h. go (occurs n p) p r refl e h }
    where
      go : (b : Bool) (p r : Polynomial) → occurs n p ≡ b → cond b (substituted_polynomial (put_for n q) p) (Ok p) ≡ Ok r → IsTrue (every_column (is_numbered case.aux) p) → value_of (numbers before aux) r ≡ value_of (numbers before with_solved_aux) p
      go true p r f e h =
          substituted-value (numbers before aux) (put_for n q) p r e
          ∙ value-agrees (λ c. value_of (numbers before aux) (put_for n q c)) (numbers before with_solved_aux) (is_numbered case.aux) seen_back p h
      go false p r f e h =
          let same : p ≡ r = cc in
          ap (value_of (numbers before aux)) (sym same) ∙ value-agrees (numbers before aux) (numbers before with_solved_aux) (is_other n) apart p (absent-lacks n p f)

  put-held : losses_by op case ≡ [] → HoldsAt (numbers before aux) (by op case) after → HoldsAt (numbers before with_solved_aux) case after
  put-held none h =
      let losses = none-of (flat_map (λ row. losses_of (op row.poly)) case.rows) (flat_map (λ p. losses_of (op p)) case.post) none in
      record {
        rows = rows_by-held op (is_numbered case.aux) (numbers before with_solved_aux) (numbers before aux) back-keeps case.rows all.rows losses.0 h.rows;
        posts = sym (posts_by-kept op (is_numbered case.aux) (numbers before with_solved_aux) (numbers before aux) back-keeps case.aux case.post all.posts losses.1) ∙ h.posts;
      }

  solved_aux-is : IsTrue (every_column (is_other n) q) → with_solved_aux n ≡ value_of (numbers before with_solved_aux) q
  solved_aux-is lacks =
      ap (λ b. cond b (value_of (numbers before aux) q) (aux n)) ((Decides-eqb n n).1 refl)
      ∙ value-agrees (numbers before aux) (numbers before with_solved_aux) (is_other n) apart q lacks

-- ---- the equation among the rows

got : (at : Valuation) (rows : List Row) (place : ℕ) (row : Row) → Some row ≡ slice_get rows place → RowsHold at rows → RowHolds at row × RowsHold at (remove rows place)
got at [] place row e h = cc
got at (r ∷ rows) zero row e h = let same : row ≡ r = cc in (subst (RowHolds at) (sym same) h.0, h.1)
got at (r ∷ rows) (suc place) row e h = let more = got at rows place row e h.1 in (more.0, (h.0, more.1))

put_back : (at : Valuation) (rows : List Row) (place : ℕ) (row : Row) → Some row ≡ slice_get rows place → RowHolds at row → RowsHold at (remove rows place) → RowsHold at rows
put_back at [] place row e h k = cc
put_back at (r ∷ rows) zero row e h k = let same : row ≡ r = cc in (subst (RowHolds at) same h, k)
put_back at (r ∷ rows) (suc place) row e h k = (k.0, put_back at rows place row e h k.1)

-- ---- a round's equation

module _ (case : Case) (place n : ℕ) (row : Row) (all : AllNumbered case) (can : CanSolve n row) (is : Some row ≡ slice_get case.rows place) (before after : List ℤ) where
  abbrev left : Case
  left = with_rows case (remove case.rows place)

  zero_value : (at : Valuation) → RowHolds at row → value_of at row.poly ≡ pos 0
  zero_value at h = subst (λ k. IsWithin k (value_of at row.poly)) can.equation h

  of_zero : (at : Valuation) → value_of at row.poly ≡ pos 0 → RowHolds at row
  of_zero at h = subst (λ k. IsWithin k (value_of at row.poly)) (sym can.equation) h

  row_numbered : IsTrue (every_column (is_numbered case.aux) row.poly)
  row_numbered = test_got (λ r. every_column (is_numbered case.aux) r.poly) case.rows place row (numbered case all).rows is

  left_numbered : Numbered left
  left_numbered = record { rows = test_removed (λ r. every_column (is_numbered case.aux) r.poly) case.rows place (numbered case all).rows; posts = (numbered case all).posts }

  pub solved-hold : HoldsCase case before after → HoldsCase (with_solved (solution row.poly n) n left) before after
  solved-hold (aux, h) = go (solution row.poly n) refl
    where
      two : RowHolds (numbers before aux) row × RowsHold (numbers before aux) (remove case.rows place)
      two = got (numbers before aux) case.rows place row is h.rows

      go : (r : Result Polynomial TermError) → solution row.poly n ≡ r → HoldsCase (with_solved r n left) before after
      go (Err x) e = (aux, record { rows = two.1; posts = h.posts })
      go (Ok q) e =
          put-hold left n q left_numbered before after aux ((solution-is n row.poly q can.solvable e (numbers before aux)).0 (zero_value (numbers before aux) two.0))
          (solution-passes (is_numbered case.aux) row.poly n q e row_numbered) (record { rows = two.1; posts = h.posts })

  pub solved-held : losses_with_solved (solution row.poly n) n left ≡ [] → HoldsCase (with_solved (solution row.poly n) n left) before after → HoldsCase case before after
  solved-held = go (solution row.poly n) refl
    where
      go : (r : Result Polynomial TermError) → solution row.poly n ≡ r → losses_with_solved r n left ≡ [] → HoldsCase (with_solved r n left) before after → HoldsCase case before after
      go (Err x) e none h = absurd (lost-some (solution row.poly n) x (solution-tells row.poly n) e none)
      go (Ok q) e none (aux, h) =
          let solved = with_solved_aux left n q left_numbered before after aux in
          let back = put-held left n q left_numbered before after aux none h in
          let value = solved_aux-is left n q left_numbered before after aux (solution-lacks n row.poly q e) in
          let zero = (solution-is n row.poly q can.solvable e (numbers before solved)).1 value in
          (solved, record { rows = put_back (numbers before solved) case.rows place row is (of_zero (numbers before solved) zero) back.rows; posts = back.posts })
