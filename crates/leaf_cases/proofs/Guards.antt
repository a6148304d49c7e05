-- Formulas that change nothing: they fit, have few auxiliaries, and say what their cases mean.
use Rattle.std.proofs.Common.{◌≡◌, inl, inr, ℕ, zero, suc, ◌+◌, ◌*◌, ◌<◌, ◌≤◌, ◌^◌, true, ℤ, pos, length, map, drop, List, [], ◌∷◌, ◌++◌, refl, sym, ap, subst, ◌∙◌, append-nil, arith}
use Rattle.std.proofs.lemmas.List.{drop_all}
use Rattle.std.proofs.lemmas.List.FromFn.{fill_by_all}
use Rattle.std.proofs.lemmas.Option.{unwrap_or-slice_get}
use Rattle.std.specs.Prelude.{IsTrue, All, nat_lt}
use Rattle.std.specs.List.{AllByRecursion, list_all, range_with_len}
use Rattle.linear_terms.specs.declared.col.Col.TheVariants.{At}
use Rattle.linear_terms.specs.declared.col.Col.{Col}
use Rattle.linear_terms.specs.declared.row.Case.{Case}
use Rattle.linear_terms.specs.Polynomial.{column_of}
use Rattle.linear_terms.specs.Value.{Valuation, value_of}
use Rattle.syntax_tree.specs.Term.{Term}
use Rattle.execution.specs.Step.{IsTrueIn, IsFalseIn}
use Rattle.transition_formula.specs.Meaning.{numbers, HoldsSome, Holds}
use Rattle.transition_formula.specs.declared.loss.Loss.{Loss}
use Rattle.transition_formula.proofs.Meanings.{nothing-more}
use Rattle.transition_formula.proofs.Values.{column-value}
use Rattle.syntax_tree.specs.WellFormed.{columns_below, operators_of}
use Rattle.transition_formula.specs.Transition.{Transition, every_column, every_column_of, is_below, fits, IsTransition}
use Rattle.transition_formula.proofs.ColumnTests.{both, both_true, more_columns, all_more, test_from_each}
use Rattle.transition_formula.proofs.Fitting.{Fitting, fitting, from_fitting, identity-fits, is_below-more, true-below}
use Rattle.transition_formula.proofs.Loops.{test_at}
use Rattle.leaf_cases.specs.Expression.{lists_of}
use Rattle.leaf_cases.specs.Guard.{AreCovered, columns_of, guard_of, with_posts}
use Rattle.leaf_cases.specs.declared.expression.Sought.TheVariants as sought
use Rattle.leaf_cases.specs.Listed.{AreFew}
use Rattle.leaf_cases.proofs.Expressions.{expression-means}
use Rattle.leaf_cases.proofs.Ready.{sit, found_few}
use Rattle.leaf_cases.proofs.CaseColumns.{Sits}

unchanged-fits : (n : ℕ) (case : Case) → IsTrue (every_column_of (is_below n case.aux) case) → IsTrue (fits n n (with_posts (columns_of n) case))
unchanged-fits n case h =
    let same : Case = record { aux = 0; rows = []; post = columns_of n } in
    let f : Fitting n n same = fitting n n same (both (fits n n same) true (identity-fits n)).0 in
    from_fitting n n (with_posts (columns_of n) case) record {
      length_is = f.length_is;
      rows_are = (both (list_all (λ row. every_column (is_below n case.aux) row.poly) case.rows) (list_all (every_column (is_below n case.aux)) case.post) h).0;
      posts_are = all_more (every_column (is_below n 0)) (every_column (is_below n case.aux)) (more_columns (is_below n 0) (is_below n case.aux) (is_below-more n 0 case.aux (omega arith))) (columns_of n) f.posts_are;
    }

guarded : (n : ℕ) (cases : List Case) → AreCovered n cases → IsTransition n n (map (with_posts (columns_of n)) cases)
guarded n [] h = refl
guarded n (case ∷ cases) h =
    let parts = both (every_column_of (is_below n case.aux) case) (list_all (λ case. every_column_of (is_below n case.aux) case) cases) h in
    both_true (fits n n (with_posts (columns_of n) case)) (list_all (fits n n) (map (with_posts (columns_of n)) cases)) (unchanged-fits n case parts.0) (guarded n cases parts.1)

pub guard_fits : (n : ℕ) (cases made : List Case) → AreCovered n cases → made ≡ map (with_posts (columns_of n)) cases → IsTransition n n made
guard_fits n cases made h e = subst (IsTransition n n) (sym e) (guarded n cases h)

covered : (n most : ℕ) (cases : List Case) → AllByRecursion (Sits n most) cases → AreCovered n cases
covered n most cases h =
    test_from_each (λ case. every_column_of (is_below n case.aux) case) (Sits n most)
    (λ case s. both_true (list_all (λ row. every_column (is_below n case.aux) row.poly) case.rows) (list_all (every_column (is_below n case.aux)) case.post) s.rows_are s.posts_are) cases h

pub truth_covered : (n : ℕ) (e : Term) (slice cases : List Case) → IsTrue (columns_below n e) → cases ≡ (lists_of e).truth.cases → slice ≡ cases → AreCovered n slice
truth_covered n e slice cases h is same = subst (AreCovered n) (sym (same ∙ is)) (covered n (4 * operators_of e + 2) (lists_of e).truth.cases (sit n e h).truth)

pub falsity_covered : (n : ℕ) (e : Term) (slice cases : List Case) → IsTrue (columns_below n e) → cases ≡ (lists_of e).falsity.cases → slice ≡ cases → AreCovered n slice
falsity_covered n e slice cases h is same = subst (AreCovered n) (sym (same ∙ is)) (covered n (4 * operators_of e + 2) (lists_of e).falsity.cases (sit n e h).falsity)

-- ---- few auxiliaries

guard_few : (n : ℕ) (cases : List Case) → AreFew (2 ^ 31) cases → AreFew (2 ^ 31) (map (with_posts (columns_of n)) cases)
guard_few n [] h = refl
guard_few n (case ∷ cases) h =
    let parts = both (nat_lt case.aux (2 ^ 31)) (list_all (λ case. nat_lt case.aux (2 ^ 31)) cases) h in
    both_true (nat_lt case.aux (2 ^ 31)) (list_all (λ case. nat_lt case.aux (2 ^ 31)) (map (with_posts (columns_of n)) cases)) parts.0 (guard_few n cases parts.1)

each_few : (cases : List Case) → AreFew (2 ^ 31) cases → All (λ case. case.aux < 2 ^ 31) cases
each_few cases h i d lt = true-below _ (2 ^ 31) (test_at (λ (case : Case). nat_lt case.aux (2 ^ 31)) cases i d _ h lt refl)

pub truth_few : (n : ℕ) (e : Term) (f : Transition) → operators_of e ≤ 200001 → f ≡ guard_of n (lists_of e).truth.cases → All (λ (case : Case). case.aux < 2 ^ 31) f.cases
truth_few n e f few is =
    let cases = (lists_of e).truth.cases in
    subst (λ (g : Transition). All (λ (case : Case). case.aux < 2 ^ 31) g.cases) (sym is) (each_few (map (with_posts (columns_of n)) cases) (guard_few n cases (found_few e sought.Truth cases cases few refl refl)))

pub falsity_few : (n : ℕ) (e : Term) (f : Transition) → operators_of e ≤ 200001 → f ≡ guard_of n (lists_of e).falsity.cases → All (λ (case : Case). case.aux < 2 ^ 31) f.cases
falsity_few n e f few is =
    let cases = (lists_of e).falsity.cases in
    subst (λ (g : Transition). All (λ (case : Case). case.aux < 2 ^ 31) g.cases) (sym is) (each_few (map (with_posts (columns_of n)) cases) (guard_few n cases (found_few e sought.Falsity cases cases few refl refl)))

-- nothing is left of a loop that maps
pub all_mapped : {X Y : Type 0} (f : X → Y) (xs : List X) (i : ℕ) (made : List Y) → length xs ≤ i → made ++ map f (drop i xs) ≡ map f xs → made ≡ map f xs
all_mapped f xs i made h e = sym (append-nil made) ∙ ap (λ l. made ++ map f l) (sym (drop_all i xs h)) ∙ e

-- ---- what a formula that changes nothing says

mapped-columns : (at : Valuation) (col : ℕ → Col) (a n : ℕ) → map (value_of at) (map (λ k. column_of (col k)) (range_with_len a n)) ≡ map (λ k. at (col k)) (range_with_len a n)
mapped-columns at col a zero = refl
mapped-columns at col a (suc n) = λ i. column-value at (col a) i ∷ mapped-columns at col (a + 1) n i

-- the columns have the numbers of the state
pub columns-read : (n : ℕ) (s : List ℤ) (aux : ℕ → ℤ) → length s ≡ n → map (value_of (numbers s aux)) (columns_of n) ≡ s
columns-read n s aux long =
    mapped-columns (numbers s aux) (λ k. At k) 0 n ∙ sym (fill_by_all (λ k. numbers s aux (At k)) s n (pos 0) long (λ k lt. sym (unwrap_or-slice_get s k (pos 0))))

some-guarded : (n : ℕ) (cases : List Case) (s z : List ℤ) → length s ≡ n → HoldsSome cases s z → HoldsSome (map (with_posts (columns_of n)) cases) s s
some-guarded n [] s z long h = absurd h
some-guarded n (case ∷ cases) s z long (inl h) = inl (h.0, record { rows = h.1.rows; posts = columns-read n s h.0 long })
some-guarded n (case ∷ cases) s z long (inr h) = inr (some-guarded n cases s z long h)

-- a case holds of some values, and the state stays
record Stays (cases : List Case) (s t : List ℤ) : Type 0 where
  same : t ≡ s
  numbers_are : List ℤ
  holds : HoldsSome cases s numbers_are

guarded-stays : (n : ℕ) (cases : List Case) (s t : List ℤ) → length s ≡ n → HoldsSome (map (with_posts (columns_of n)) cases) s t → Stays cases s t
guarded-stays n [] s t long h = absurd h
guarded-stays n (case ∷ cases) s t long (inl (aux, h)) =
    record { same = sym h.posts ∙ columns-read n s aux long; numbers_are = map (value_of (numbers s aux)) case.post; holds = inl (aux, record { rows = h.rows; posts = refl }) }
guarded-stays n (case ∷ cases) s t long (inr h) = let k = guarded-stays n cases s t long h in record { same = k.same; numbers_are = k.numbers_are; holds = inr k.holds }

pub truth_holds : (n : ℕ) (e : Term) (f : Transition) → IsTrue (columns_below n e) → f ≡ guard_of n (lists_of e).truth.cases → (s : List ℤ) → length s ≡ n → IsTrueIn e s → Holds f s s
truth_holds n e f below is s long (v, value, some) =
    let means = expression-means n e below in
    let holds = means.truth.least s [] (record { number = v; value = value; some = some; none = refl }) in
    subst (λ (g : Transition). Holds g s s) (sym is) (record { enters = long; some = some-guarded n (lists_of e).truth.cases s [] long holds })

pub falsity_holds : (n : ℕ) (e : Term) (f : Transition) → IsTrue (columns_below n e) → f ≡ guard_of n (lists_of e).falsity.cases → (s : List ℤ) → length s ≡ n → IsFalseIn e s → Holds f s s
falsity_holds n e f below is s long value =
    let means = expression-means n e below in
    let holds = means.falsity.least s [] (record { value = value; none = refl }) in
    subst (λ (g : Transition). Holds g s s) (sym is) (record { enters = long; some = some-guarded n (lists_of e).falsity.cases s [] long holds })

pub truth_held : (n : ℕ) (e : Term) (f : Transition) (old new : List Loss) → IsTrue (columns_below n e) → f ≡ guard_of n (lists_of e).truth.cases → new ≡ old ++ (lists_of e).truth.lost → new ≡ old
    → (s t : List ℤ) → Holds f s t → (t ≡ s) × IsTrueIn e s
truth_held n e f old new below is noted kept s t h =
    let means = expression-means n e below in
    let none = nothing-more old (lists_of e).truth.lost (sym noted ∙ kept) in
    let k = subst (λ (g : Transition). Holds g s t) is h in
    let stays = guarded-stays n (lists_of e).truth.cases s t k.enters k.some in
    let m = means.truth.most none s stays.numbers_are stays.holds in
    (stays.same, (m.number, m.value, m.some))

pub falsity_held : (n : ℕ) (e : Term) (f : Transition) (old new : List Loss) → IsTrue (columns_below n e) → f ≡ guard_of n (lists_of e).falsity.cases → new ≡ old ++ (lists_of e).falsity.lost → new ≡ old
    → (s t : List ℤ) → Holds f s t → (t ≡ s) × IsFalseIn e s
falsity_held n e f old new below is noted kept s t h =
    let means = expression-means n e below in
    let none = nothing-more old (lists_of e).falsity.lost (sym noted ∙ kept) in
    let k = subst (λ (g : Transition). Holds g s t) is h in
    let stays = guarded-stays n (lists_of e).falsity.cases s t k.enters k.some in
    let m = means.falsity.most none s stays.numbers_are stays.holds in
    (stays.same, m.value)
