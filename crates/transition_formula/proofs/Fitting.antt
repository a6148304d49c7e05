-- What is composed fits between its columns.
use Rattle.std.proofs.Common.{◌≡◌, ℕ, zero, suc, ◌+◌, ◌<◌, ◌≤◌, Bool, true, length, map, List, [], ◌∷◌, ◌++◌, pos, refl, sym, subst, ◌∙◌, arith}
use Rattle.std.specs.Prelude.{IsTrue, ◌==◌, nat_lt, count_by, slice_get, unwrap_or}
use Rattle.std.specs.List.{list_all, range_with_len, flat_map}
use Rattle.std.proofs.lemmas.Bool.Decides.{Decides-ltb, Decides-eqb}
use Rattle.std.proofs.lemmas.List.Folds.{list_all-append}
use Rattle.std.proofs.lemmas.List.FromFn.{length-map-range_with_len}
use Rattle.linear_terms.specs.declared.col.Col.{Col}
use Rattle.linear_terms.specs.declared.col.Col.TheVariants.{At, Aux}
use Rattle.linear_terms.specs.declared.row.Case.{Case}
use Rattle.linear_terms.specs.Polynomial.{column_of, constant_of}
use Rattle.linear_terms.specs.Replacement.{put_in}
use Rattle.transition_formula.specs.Transition.{every_column, every_column_of, is_below, fits, IsTransition, Transition}
use Rattle.transition_formula.specs.Composition.{rows_by, sequence_of_cases, sequence_of, after_case, identity_of}
use Rattle.transition_formula.proofs.ColumnTests.{both, both_true, lost, Carries, substituted-carries, test_from_columns, more_columns, more_columns_of, all_more, rows_by-covered, posts_by-covered, posts_by-length}
use Rattle.transition_formula.proofs.Sequences.{later}

pub below-true : (a b : ℕ) → a < b → IsTrue (nat_lt a b)
below-true a b h = (Decides-ltb a b).1 h

pub true-below : (a b : ℕ) → IsTrue (nat_lt a b) → a < b
true-below a b h = (Decides-ltb a b).0 h

pub is_below-more : (at aux more : ℕ) → aux ≤ more → (c : Col) → IsTrue (is_below at aux c) → IsTrue (is_below at more c)
is_below-more at aux more le (At n) h = h
is_below-more at aux more le (Aux n) h = let lt = true-below n aux h in below-true n more (omega arith)

column_passes : (t : Col → Bool) (c : Col) → IsTrue (t c) → IsTrue (every_column t (column_of c))
column_passes t c h = test_from_columns t (column_of c) ((h, tt), tt)

pub test_of_get : {A : Type 0} (test : A → Bool) (d : A) (xs : List A) (n : ℕ) → IsTrue (list_all test xs) → n < length xs → IsTrue (test (unwrap_or (slice_get xs n) d))
test_of_get test d [] n h lt = absurd (omega arith)
test_of_get test d (x ∷ xs) zero h lt = (both (test x) (list_all test xs) h).0
test_of_get test d (x ∷ xs) (suc n) h lt = test_of_get test d xs n (both (test x) (list_all test xs) h).1 (omega arith)

pub columns_pass : (t : Col → Bool) (col : ℕ → Col) (a k : ℕ) → ((j : ℕ) → a ≤ j → j < a + k → IsTrue (t (col j))) → IsTrue (list_all (every_column t) (map (λ n. column_of (col n)) (range_with_len a k)))
columns_pass t col a zero each = refl
columns_pass t col a (suc k) each =
    both_true (every_column t (column_of (col a))) (list_all (every_column t) (map (λ n. column_of (col n)) (range_with_len (a + 1) k)))
    (column_passes t (col a) (each a (omega arith) (omega arith))) (columns_pass t col (a + 1) k (λ j le lt. each j (omega arith) (omega arith)))

-- ---- a case

pub record Fitting (from to : ℕ) (case : Case) : Type 0 where
  pub length_is : length case.post ≡ to
  pub rows_are : IsTrue (list_all (λ row. every_column (is_below from case.aux) row.poly) case.rows)
  pub posts_are : IsTrue (list_all (every_column (is_below from case.aux)) case.post)

pub fitting : (from to : ℕ) (case : Case) → IsTrue (fits from to case) → Fitting from to case
fitting from to case h =
    let parts = both (length case.post == to) (every_column_of (is_below from case.aux) case) h in
    let columns = both (list_all (λ row. every_column (is_below from case.aux) row.poly) case.rows) (list_all (every_column (is_below from case.aux)) case.post) parts.1 in
    record { length_is = (Decides-eqb (length case.post) to).0 parts.0; rows_are = columns.0; posts_are = columns.1 }

pub from_fitting : (from to : ℕ) (case : Case) → Fitting from to case → IsTrue (fits from to case)
from_fitting from to case f =
    both_true (length case.post == to) (every_column_of (is_below from case.aux) case) ((Decides-eqb (length case.post) to).1 f.length_is)
    (both_true (list_all (λ row. every_column (is_below from case.aux) row.poly) case.rows) (list_all (every_column (is_below from case.aux)) case.post) f.rows_are f.posts_are)

-- ---- identity

pub identity-fits : (n : ℕ) → IsTransition n n (identity_of n).cases
identity-fits n =
    let case : Case = record { aux = 0; rows = []; post = map (λ k. column_of (At k)) (range_with_len 0 n) } in
    let fit : IsTrue (fits n n case) = from_fitting n n case record {
      length_is = length-map-range_with_len (λ k. column_of (At k)) 0 n;
      rows_are = refl;
      posts_are = columns_pass (is_below n 0) (λ k. At k) 0 n (λ j le lt. below-true j n (omega arith));
    } in
    both_true (fits n n case) true fit refl

-- ---- sequence

pub put_in-covers : (from : ℕ) (first second : Case) (end : ℕ) → IsTrue (list_all (every_column (is_below from first.aux)) first.post) → first.aux + second.aux ≤ end
    → (c : Col) → IsTrue (is_below (length first.post) second.aux c) → IsTrue (every_column (is_below from end) (put_in first.post (later first second) c))
put_in-covers from first second end posts le (At n) h =
    let covered = all_more (every_column (is_below from first.aux)) (every_column (is_below from end)) (more_columns (is_below from first.aux) (is_below from end) (is_below-more from first.aux end (omega arith))) first.post posts in
    test_of_get (every_column (is_below from end)) (constant_of (pos 0)) first.post n covered (true-below n (length first.post) h)
put_in-covers from first second end posts le (Aux n) h =
    let lt = true-below n second.aux h in
    let covered = columns_pass (is_below from end) (λ k. Aux k) first.aux second.aux (λ j ge lt. below-true j end (omega arith)) in
    test_of_get (every_column (is_below from end)) (constant_of (pos 0)) (later first second) n covered (omega (arith, length-map-range_with_len (λ k. column_of (Aux k)) first.aux second.aux))

pub sequence_of_cases-fits : (from between to : ℕ) (first second : Case) → IsTrue (fits from between first) → IsTrue (fits between to second) → IsTrue (fits from to (sequence_of_cases first second))
sequence_of_cases-fits from between to first second h k =
    let f = fitting from between first h in
    let s = fitting between to second k in
    let op = after_case first second in
    let end : ℕ = first.aux + second.aux + count_by (lost op) second.post in
    let carries : Carries op (is_below between second.aux) (is_below from end) =
    substituted-carries (put_in first.post (later first second)) (is_below between second.aux) (is_below from end)
    (λ c e. put_in-covers from first second end f.posts_are (omega arith) c (subst (λ n. IsTrue (is_below n second.aux c)) (sym f.length_is) e)) in
    from_fitting from to (sequence_of_cases first second) record {
      length_is = posts_by-length op (first.aux + second.aux) second.post ∙ s.length_is;
      rows_are =
          list_all-append (λ row. every_column (is_below from end) row.poly) first.rows (rows_by op second.rows)
          ∙ both_true (list_all (λ row. every_column (is_below from end) row.poly) first.rows) (list_all (λ row. every_column (is_below from end) row.poly) (rows_by op second.rows))
          (more_columns_of (is_below from first.aux) (is_below from end) (is_below-more from first.aux end (omega arith)) first.rows f.rows_are)
          (rows_by-covered op (is_below between second.aux) (is_below from end) carries second.rows s.rows_are);
      posts_are = posts_by-covered op (is_below between second.aux) (is_below from end) carries end (λ j lt. below-true j end lt) (first.aux + second.aux) second.post (omega arith) s.posts_are;
    }

mapped-fits : (from between to : ℕ) (first : Case) → IsTrue (fits from between first) → (cases : List Case) → IsTransition between to cases → IsTransition from to (map (sequence_of_cases first) cases)
mapped-fits from between to first h [] k = refl
mapped-fits from between to first h (second ∷ cases) k =
    let parts = both (fits between to second) (list_all (fits between to) cases) k in
    both_true (fits from to (sequence_of_cases first second)) (list_all (fits from to) (map (sequence_of_cases first) cases)) (sequence_of_cases-fits from between to first second h parts.0) (mapped-fits from between to first h cases parts.1)

pub sequence-fits : (from between to : ℕ) (firsts seconds : List Case) → IsTransition from between firsts → IsTransition between to seconds → IsTransition from to (flat_map (λ first. map (sequence_of_cases first) seconds) firsts)
sequence-fits from between to [] seconds h k = refl
sequence-fits from between to (first ∷ firsts) seconds h k =
    let parts = both (fits from between first) (list_all (fits from between) firsts) h in
    list_all-append (fits from to) (map (sequence_of_cases first) seconds) (flat_map (λ f. map (sequence_of_cases f) seconds) firsts)
    ∙ both_true (list_all (fits from to) (map (sequence_of_cases first) seconds)) (list_all (fits from to) (flat_map (λ f. map (sequence_of_cases f) seconds) firsts))
    (mapped-fits from between to first parts.0 seconds k) (sequence-fits from between to firsts seconds parts.1 k)

-- ---- choice

pub joined-fits : (from to : ℕ) (xs ys : List Case) → IsTransition from to xs → IsTransition from to ys → IsTransition from to (xs ++ ys)
joined-fits from to xs ys h k = list_all-append (fits from to) xs ys ∙ both_true (list_all (fits from to) xs) (list_all (fits from to) ys) h k

pub sequence_of-fits : (a b : Transition) → a.to ≡ b.from → IsTransition a.from a.to a.cases → IsTransition b.from b.to b.cases → IsTransition a.from b.to (sequence_of a b).cases
sequence_of-fits a b e h k = sequence-fits a.from b.from b.to a.cases b.cases (subst (λ t. IsTransition a.from t a.cases) e h) k
