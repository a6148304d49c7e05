-- Tests of columns: what they decide, and that operations carry them from polynomials to what they
-- answer.
use Rattle.std.proofs.Common.{◌≡◌, ℕ, suc, ◌+◌, ◌<◌, ◌≤◌, Bool, true, false, cond, length, map, List, [], ◌∷◌, Option, Some, None, Result, Ok, Err, refl, ap, subst, arith}
use Rattle.std.specs.Prelude.{All, IsTrue, ◌↔◌, ◌&&◌, count_by}
use Rattle.std.specs.Bool.{Decides}
use Rattle.std.specs.List.{list_all, AllByRecursion, cons_option}
use Rattle.std.specs.Option.{is_none}
use Rattle.std.proofs.lemmas.Bool.Decides.{Decides-ltb, Decides-by_and, same_from_decides}
use Rattle.std.proofs.lemmas.List.Sums.{sum_by-cons}
use Rattle.linear_terms.specs.declared.col.Col.{Col}
use Rattle.linear_terms.specs.declared.col.Col.TheVariants.{At, Aux}
use Rattle.linear_terms.specs.declared.error.TermError.{TermError}
use Rattle.linear_terms.specs.declared.row.Row.{Row}
use Rattle.linear_terms.specs.Polynomial.{Polynomial, column_of}
use Rattle.linear_terms.specs.Operations.{substituted_polynomial}
use Rattle.linear_terms.specs.Replacement.{IsBelow}
use Rattle.linear_terms.proofs.Columns.{EachColumn, substituted-each}
use Rattle.transition_formula.specs.Loss.{answer_of}
use Rattle.transition_formula.specs.Transition.{every_column, is_below}
use Rattle.transition_formula.specs.Composition.{Operation, row_of, rows_by, filled_posts, posts_by}

is_below-Decides : (at aux : ℕ) (c : Col) → Decides (is_below at aux c) (IsBelow at aux c)
is_below-Decides at aux (At n) = Decides-ltb n at
is_below-Decides at aux (Aux n) = Decides-ltb n aux

columns-Decides : (at aux : ℕ) (m : List Col) → Decides (list_all (is_below at aux) m) (All (IsBelow at aux) m)
columns-Decides at aux m = Decides-by_and (is_below at aux) (IsBelow at aux) (λ m. list_all (is_below at aux) m) (is_below-Decides at aux) refl (λ _ _. refl) m

pub every_column-Decides : (at aux : ℕ) (p : Polynomial) → Decides (every_column (is_below at aux) p) (All (λ t. All (IsBelow at aux) t.0) p.terms)
every_column-Decides at aux p =
    Decides-by_and (λ t. list_all (is_below at aux) t.0) (λ t. All (IsBelow at aux) t.0) (λ ts. list_all (λ t. list_all (is_below at aux) t.0) ts) (λ t. columns-Decides at aux t.0) refl (λ _ _. refl) p.terms

pub every_column_decides : (at aux : ℕ) (p : Polynomial) (b : Bool) → (IsTrue b ↔ All (λ t. All (IsBelow at aux) t.0) p.terms) → b ≡ every_column (is_below at aux) p
every_column_decides at aux p b decided = same_from_decides b (every_column (is_below at aux) p) decided (every_column-Decides at aux p)

-- ---- tests of each element

pub both : (a b : Bool) → IsTrue (a && b) → IsTrue a × IsTrue b
both true b e = (refl, e)
both false b e = cc

pub both_true : (a b : Bool) → IsTrue a → IsTrue b → IsTrue (a && b)
both_true true b e f = f
both_true false b e f = cc

pub each_from_test : {A : Type 0} (test : A → Bool) (P : A → Type 0) → ((x : A) → IsTrue (test x) → P x) → (xs : List A) → IsTrue (list_all test xs) → AllByRecursion P xs
each_from_test test P tells [] h = tt
each_from_test test P tells (x ∷ xs) h = let parts = both (test x) (list_all test xs) h in (tells x parts.0, each_from_test test P tells xs parts.1)

pub test_from_each : {A : Type 0} (test : A → Bool) (P : A → Type 0) → ((x : A) → P x → IsTrue (test x)) → (xs : List A) → AllByRecursion P xs → IsTrue (list_all test xs)
test_from_each test P tells [] h = refl
test_from_each test P tells (x ∷ xs) h = both_true (test x) (list_all test xs) (tells x h.0) (test_from_each test P tells xs h.1)

pub all_more : {A : Type 0} (s t : A → Bool) → ((x : A) → IsTrue (s x) → IsTrue (t x)) → (xs : List A) → IsTrue (list_all s xs) → IsTrue (list_all t xs)
all_more s t more xs h = test_from_each t (λ x. IsTrue (s x)) more xs (each_from_test s (λ x. IsTrue (s x)) (λ x k. k) xs h)

pub columns_from_test : (test : Col → Bool) (p : Polynomial) → IsTrue (every_column test p) → EachColumn (λ c. IsTrue (test c)) p.terms
columns_from_test test p =
    each_from_test (λ t. list_all test t.0) (λ t. AllByRecursion (λ c. IsTrue (test c)) t.0) (λ t. each_from_test test (λ c. IsTrue (test c)) (λ c k. k) t.0) p.terms

pub test_from_columns : (test : Col → Bool) (p : Polynomial) → EachColumn (λ c. IsTrue (test c)) p.terms → IsTrue (every_column test p)
test_from_columns test p =
    test_from_each (λ t. list_all test t.0) (λ t. AllByRecursion (λ c. IsTrue (test c)) t.0) (λ t. test_from_each test (λ c. IsTrue (test c)) (λ c k. k) t.0) p.terms

pub more_columns : (s t : Col → Bool) → ((c : Col) → IsTrue (s c) → IsTrue (t c)) → (p : Polynomial) → IsTrue (every_column s p) → IsTrue (every_column t p)
more_columns s t more p = all_more (λ u. list_all s u.0) (λ u. list_all t u.0) (λ u. all_more s t more u.0) p.terms

pub more_columns_of : (s t : Col → Bool) → ((c : Col) → IsTrue (s c) → IsTrue (t c)) → (rows : List Row) → IsTrue (list_all (λ row. every_column s row.poly) rows) → IsTrue (list_all (λ row. every_column t row.poly) rows)
more_columns_of s t more rows = all_more (λ row. every_column s row.poly) (λ row. every_column t row.poly) (λ row. more_columns s t more row.poly) rows

-- ---- operations on polynomials

-- what the operation answers has columns that pass t, where those of its operand pass s
pub record Carries (f : Operation) (s t : Col → Bool) : Type 0 where
  pub to : (p q : Polynomial) → f p ≡ Ok q → IsTrue (every_column s p) → IsTrue (every_column t q)

pub substituted-carries : (put_in : Col → Polynomial) (s t : Col → Bool) → ((c : Col) → IsTrue (s c) → IsTrue (every_column t (put_in c))) → Carries (substituted_polynomial put_in) s t
substituted-carries put_in s t covers =
    record {
      to = λ p q e h. test_from_columns t q (substituted-each (λ c. IsTrue (s c)) (λ c. IsTrue (t c)) put_in (λ c k. columns_from_test t (put_in c) (covers c k)) p q e (columns_from_test s p h));
    }

pub rows_by-covered : (f : Operation) (s t : Col → Bool) → Carries f s t → (rows : List Row) → IsTrue (list_all (λ row. every_column s row.poly) rows) → IsTrue (list_all (λ row. every_column t row.poly) (rows_by f rows))
rows_by-covered f s t carries [] h = refl
rows_by-covered f s t carries (row ∷ rows) h =
    let parts = both (every_column s row.poly) (list_all (λ r. every_column s r.poly) rows) h in
    go (f row.poly) refl parts.0 (rows_by-covered f s t carries rows parts.1)
  where
    go : (r : Result Polynomial TermError) → f row.poly ≡ r → IsTrue (every_column s row.poly) → IsTrue (list_all (λ r. every_column t r.poly) (rows_by f rows)) → IsTrue (list_all (λ r. every_column t r.poly) (cons_option (row_of row.kind r) (rows_by f rows)))
    go (Ok q) e k rest = both_true (every_column t q) (list_all (λ r. every_column t r.poly) (rows_by f rows)) (carries.to row.poly q e k) rest
    go (Err d) e k rest = rest

abbrev pub lost : Operation → Polynomial → Bool
lost f p = is_none (answer_of (f p))

pub count_lost : (f : Operation) (p : Polynomial) (ps : List Polynomial) → count_by (lost f) (p ∷ ps) ≡ cond (lost f p) 1 0 + count_by (lost f) ps
count_lost f p ps = sum_by-cons (λ x. cond (lost f x) 1 0) p ps

pub posts_by-covered : (f : Operation) (s t : Col → Bool) → Carries f s t → (end : ℕ) → ((k : ℕ) → k < end → IsTrue (t (Aux k))) → (next : ℕ) (posts : List Polynomial) → next + count_by (lost f) posts ≤ end
    → IsTrue (list_all (every_column s) posts) → IsTrue (list_all (every_column t) (posts_by f next posts))
posts_by-covered f s t carries end new next [] few h = refl
posts_by-covered f s t carries end new next (p ∷ ps) few h =
    let parts = both (every_column s p) (list_all (every_column s) ps) h in
    go (f p) refl parts.0 (omega (arith, count_lost f p ps)) (λ n k. posts_by-covered f s t carries end new n ps k parts.1)
  where
    column_passes : (k : ℕ) → IsTrue (t (Aux k)) → IsTrue (every_column t (column_of (Aux k)))
    column_passes k e = test_from_columns t (column_of (Aux k)) ((e, tt), tt)

    go : (r : Result Polynomial TermError) → f p ≡ r → IsTrue (every_column s p) → next + (cond (is_none (answer_of (f p))) 1 0 + count_by (lost f) ps) ≤ end
        → ((n : ℕ) → n + count_by (lost f) ps ≤ end → IsTrue (list_all (every_column t) (posts_by f n ps))) → IsTrue (list_all (every_column t) (filled_posts next (answer_of r ∷ map (λ q. answer_of (f q)) ps)))
    go (Ok q) e k bound rest =
        let here : next + (cond (is_none (answer_of {A = Polynomial} (Ok q))) 1 0 + count_by (lost f) ps) ≤ end = subst (λ r. next + (cond (is_none (answer_of r)) 1 0 + count_by (lost f) ps) ≤ end) e bound in
        both_true (every_column t q) (list_all (every_column t) (posts_by f next ps)) (carries.to p q e k) (rest next (omega arith))
    go (Err d) e k bound rest =
        let here : next + (cond (is_none (answer_of {A = Polynomial} (Err d))) 1 0 + count_by (lost f) ps) ≤ end = subst (λ r. next + (cond (is_none (answer_of r)) 1 0 + count_by (lost f) ps) ≤ end) e bound in
        both_true (every_column t (column_of (Aux next))) (list_all (every_column t) (posts_by f (next + 1) ps)) (column_passes next (new next (omega arith))) (rest (next + 1) (omega arith))

pub posts_by-length : (f : Operation) (next : ℕ) (posts : List Polynomial) → length (posts_by f next posts) ≡ length posts
posts_by-length f next [] = refl
posts_by-length f next (p ∷ ps) = go (answer_of (f p)) (posts_by-length f next ps) (posts_by-length f (next + 1) ps)
  where
    go : (o : Option Polynomial) → length (posts_by f next ps) ≡ length ps → length (posts_by f (next + 1) ps) ≡ length ps → length (filled_posts next (o ∷ map (λ q. answer_of (f q)) ps)) ≡ length (p ∷ ps)
    go None h k = ap suc k
    go (Some q) h k = ap suc h
