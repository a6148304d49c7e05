-- Values under numbers for the columns, through operations on the polynomials of a case.
use Rattle.std.proofs.Common.{◌≡◌, ℕ, suc, ◌+◌, ◌<◌, Bool, ℤ, pos, ◌+ℤ◌, ◌*ℤ◌, length, map, get_or, List, [], ◌∷◌, ◌++◌, Option, Some, None, Result, Ok, Err, refl, sym, ap, subst, ◌∙◌, arith}
use Rattle.std.specs.Prelude.{IsTrue}
use Rattle.std.specs.List.{AllByRecursion, list_all, flat_map, cons_option}
use Rattle.std.proofs.lemmas.Int.{ints}
use Rattle.linear_terms.specs.declared.col.Col.{Col}
use Rattle.linear_terms.specs.declared.col.Col.TheVariants.{Aux}
use Rattle.linear_terms.specs.declared.error.TermError.{TermError}
use Rattle.linear_terms.specs.declared.row.Row.{Row}
use Rattle.linear_terms.specs.Polynomial.{Terms, Polynomial, column_of}
use Rattle.linear_terms.specs.Row.{RowHolds, IsWithin}
use Rattle.linear_terms.specs.Value.{Valuation, mono_value, terms_value, value_of}
use Rattle.linear_terms.proofs.Columns.{EachColumn}
use Rattle.transition_formula.specs.Loss.{answer_of, losses_of}
use Rattle.transition_formula.specs.Transition.{every_column}
use Rattle.transition_formula.specs.Composition.{Operation, row_of, rows_by, filled_posts, posts_by}
use Rattle.transition_formula.proofs.ColumnTests.{both, columns_from_test}
use Rattle.transition_formula.proofs.NotedErrors.{Tells, lost-some}

pub column-value : (at : Valuation) (c : Col) → value_of at (column_of c) ≡ at c
column-value at c = go (at c)
  where
    go : (x : ℤ) → pos 1 *ℤ (x *ℤ pos 1) +ℤ pos 0 +ℤ pos 0 ≡ x
    go x = omega (arith, ints)

-- ---- valuations that agree on the columns that there are

module _ (v w : Valuation) (test : Col → Bool) (agree : (c : Col) → IsTrue (test c) → v c ≡ w c) where
  mono-agrees : (m : List Col) → AllByRecursion (λ c. IsTrue (test c)) m → mono_value v m ≡ mono_value w m
  mono-agrees [] h = refl
  mono-agrees (c ∷ m) h = λ i. agree c h.0 i *ℤ mono-agrees m h.1 i

  terms-agree : (ts : Terms) → EachColumn (λ c. IsTrue (test c)) ts → terms_value v ts ≡ terms_value w ts
  terms-agree [] h = refl
  terms-agree (t ∷ ts) h = λ i. t.1 *ℤ mono-agrees t.0 h.0 i +ℤ terms-agree ts h.1 i

  pub value-agrees : (p : Polynomial) → IsTrue (every_column test p) → value_of v p ≡ value_of w p
  value-agrees p h = ap (λ x. x +ℤ p.rest) (terms-agree p.terms (columns_from_test test p h))

  pub rows-agree : (rows : List Row) → IsTrue (list_all (λ row. every_column test row.poly) rows) → AllByRecursion (RowHolds v) rows → AllByRecursion (RowHolds w) rows
  rows-agree [] h k = tt
  rows-agree (row ∷ rows) h k =
      let parts = both (every_column test row.poly) (list_all (λ r. every_column test r.poly) rows) h in
      (subst (IsWithin row.kind) (value-agrees row.poly parts.0) k.0, rows-agree rows parts.1 k.1)

  pub posts-agree : (posts : List Polynomial) → IsTrue (list_all (every_column test) posts) → map (value_of v) posts ≡ map (value_of w) posts
  posts-agree [] h = refl
  posts-agree (p ∷ posts) h = let parts = both (every_column test p) (list_all (every_column test) posts) h in λ i. value-agrees p parts.0 i ∷ posts-agree posts parts.1 i

-- ---- where nothing was lost

front-none : {X : Type 0} (xs ys : List X) → xs ++ ys ≡ [] → (xs ≡ []) × (ys ≡ [])
front-none [] ys e = (refl, e)
front-none (x ∷ xs) ys e = cc

pub none-of : {X : Type 0} (xs ys : List X) → xs ++ ys ≡ [] → (xs ≡ []) × (ys ≡ [])
none-of = front-none

-- ---- operations

-- what the operation answers has under w the value that its operand has under v, and it is never
-- want of memory
pub record Keeps (f : Operation) (test : Col → Bool) (v w : Valuation) : Type 0 where
  pub tells : (p : Polynomial) → Tells (f p)
  pub value : (p q : Polynomial) → f p ≡ Ok q → IsTrue (every_column test p) → value_of w q ≡ value_of v p

-- the values of the posts that are lost
abbrev pub with_lost : Option Polynomial → ℤ → List ℤ → List ℤ
with_lost None value values = value ∷ values
with_lost (Some q) value values = values

abbrev pub lost_values : Operation → Valuation → List Polynomial → List ℤ
lost_values f v [] = []
lost_values f v (p ∷ posts) = with_lost (answer_of (f p)) (value_of v p) (lost_values f v posts)

-- the auxiliaries from n on have these numbers
abbrev pub NumbersFrom : Valuation → ℕ → List ℤ → Type 0
NumbersFrom w n values = (k : ℕ) → k < length values → w (Aux (n + k)) ≡ get_or values k (pos 0)

module _ (f : Operation) (test : Col → Bool) (v w : Valuation) (keeps : Keeps f test v w) where
  pub rows_by-hold : (rows : List Row) → IsTrue (list_all (λ row. every_column test row.poly) rows) → AllByRecursion (RowHolds v) rows → AllByRecursion (RowHolds w) (rows_by f rows)
  rows_by-hold [] h k = tt
  rows_by-hold (row ∷ rows) h k =
      let parts = both (every_column test row.poly) (list_all (λ r. every_column test r.poly) rows) h in
      go (f row.poly) refl parts.0 (rows_by-hold rows parts.1 k.1)
    where
      go : (r : Result Polynomial TermError) → f row.poly ≡ r → IsTrue (every_column test row.poly) → AllByRecursion (RowHolds w) (rows_by f rows) → AllByRecursion (RowHolds w) (cons_option (row_of row.kind r) (rows_by f rows))
      go (Ok q) e c later = (subst (IsWithin row.kind) (sym (keeps.value row.poly q e c)) k.0, later)
      go (Err d) e c later = later

  pub rows_by-held : (rows : List Row) → IsTrue (list_all (λ row. every_column test row.poly) rows) → flat_map (λ row. losses_of (f row.poly)) rows ≡ [] → AllByRecursion (RowHolds w) (rows_by f rows) → AllByRecursion (RowHolds v) rows
  rows_by-held [] h n k = tt
  rows_by-held (row ∷ rows) h n k =
      let parts = both (every_column test row.poly) (list_all (λ r. every_column test r.poly) rows) h in
      let none = none-of (losses_of (f row.poly)) (flat_map (λ r. losses_of (f r.poly)) rows) n in
      go (f row.poly) refl parts.0 none.0 k (λ later. rows_by-held rows parts.1 none.1 later)
    where
      go : (r : Result Polynomial TermError) → f row.poly ≡ r → IsTrue (every_column test row.poly) → losses_of r ≡ [] → AllByRecursion (RowHolds w) (cons_option (row_of row.kind r) (rows_by f rows))
          → (AllByRecursion (RowHolds w) (rows_by f rows) → AllByRecursion (RowHolds v) rows) → RowHolds v row × AllByRecursion (RowHolds v) rows
      go (Ok q) e c l held ih = (subst (IsWithin row.kind) (keeps.value row.poly q e c) held.0, ih held.1)
      go (Err d) e c l held ih = absurd (lost-some (f row.poly) d (keeps.tells row.poly) e l)

  pub posts_by-values : (next : ℕ) (posts : List Polynomial) → IsTrue (list_all (every_column test) posts) → NumbersFrom w next (lost_values f v posts)
      → map (value_of w) (posts_by f next posts) ≡ map (value_of v) posts
  posts_by-values next [] h new = refl
  posts_by-values next (p ∷ posts) h new =
      let parts = both (every_column test p) (list_all (every_column test) posts) h in
      go (f p) refl parts.0 new (λ n k. posts_by-values n posts parts.1 k)
    where
      go : (r : Result Polynomial TermError) → f p ≡ r → IsTrue (every_column test p) → NumbersFrom w next (with_lost (answer_of r) (value_of v p) (lost_values f v posts))
          → ((n : ℕ) → NumbersFrom w n (lost_values f v posts) → map (value_of w) (posts_by f n posts) ≡ map (value_of v) posts)
          → map (value_of w) (filled_posts next (answer_of r ∷ map (λ q. answer_of (f q)) posts)) ≡ map (value_of v) (p ∷ posts)
      go (Ok q) e c numbers ih = λ i. keeps.value p q e c i ∷ ih next numbers i
      go (Err d) e c numbers ih =
          let here : next + 0 ≡ next = omega arith in
          let first = sym (ap (λ n. w (Aux n)) here) ∙ numbers 0 (omega arith) in
          let later : NumbersFrom w (next + 1) (lost_values f v posts) = λ k lt. let there : next + suc k ≡ next + 1 + k = omega arith in sym (ap (λ n. w (Aux n)) there) ∙ numbers (suc k) (omega arith) in
          λ i. (column-value w (Aux next) ∙ first) i ∷ ih (next + 1) later i

  pub posts_by-kept : (next : ℕ) (posts : List Polynomial) → IsTrue (list_all (every_column test) posts) → flat_map (λ p. losses_of (f p)) posts ≡ [] → map (value_of w) (posts_by f next posts) ≡ map (value_of v) posts
  posts_by-kept next [] h n = refl
  posts_by-kept next (p ∷ posts) h n =
      let parts = both (every_column test p) (list_all (every_column test) posts) h in
      let none = none-of (losses_of (f p)) (flat_map (λ q. losses_of (f q)) posts) n in
      go (f p) refl parts.0 none.0 (posts_by-kept next posts parts.1 none.1)
    where
      go : (r : Result Polynomial TermError) → f p ≡ r → IsTrue (every_column test p) → losses_of r ≡ [] → map (value_of w) (posts_by f next posts) ≡ map (value_of v) posts
          → map (value_of w) (filled_posts next (answer_of r ∷ map (λ q. answer_of (f q)) posts)) ≡ map (value_of v) (p ∷ posts)
      go (Ok q) e c l later = λ i. keeps.value p q e c i ∷ later i
      go (Err d) e c l later = absurd (lost-some (f p) d (keeps.tells p) e l)
