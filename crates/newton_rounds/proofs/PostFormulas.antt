-- Formulas with more or other posts fit between their columns.
use Rattle.std.proofs.Common.{◌≡◌, ℕ, zero, suc, ◌+◌, ◌-◌, ◌≤◌, Bool, true, length, length-append, length-drop, map, take, drop, List, [], ◌∷◌, ◌++◌, Option, None, Some, refl, ◌∙◌, arith}
use Rattle.std.specs.Prelude.{IsTrue, slice_set}
use Rattle.std.specs.List.{AllByRecursion, list_all}
use Rattle.std.proofs.lemmas.List.{length-take-le, length-set}
use Rattle.std.proofs.lemmas.List.Folds.{list_all-append}
use Rattle.std.proofs.lemmas.List.FromFn.{length-map-range_with_len}
use Rattle.linear_terms.specs.declared.col.Col.TheVariants.{At, Aux}
use Rattle.linear_terms.specs.declared.row.Case.{Case}
use Rattle.linear_terms.specs.Polynomial.{Polynomial, column_of}
use Rattle.transition_formula.specs.Transition.{every_column, fits, is_below, IsTransition}
use Rattle.transition_formula.proofs.ColumnTests.{both, both_true}
use Rattle.transition_formula.proofs.Fitting.{Fitting, below-true, columns_pass, fitting, from_fitting}
use Rattle.transition_formula.proofs.PostsAsEntries.{raised-fits}
use Rattle.leaf_cases.specs.Edges.{posts_with_value}
use Rattle.leaf_cases.specs.Guard.{with_posts}
use Rattle.leaf_cases.specs.Guard as cases
use Rattle.leaf_cases.specs.Steps.{operand}
use Rattle.newton_rounds.specs.Pairs.{call_exit, carrying_case, columns_from, exit_columns, posts_after_return}

-- ---- other posts

pub posted-fits : (from between to : ℕ) (F : Case → List Polynomial) → ((case : Case) → Fitting from between case → Fitting from to (with_posts (F case) case)) → (cases : List Case) → IsTransition from between cases
    → IsTransition from to (map (λ case. with_posts (F case) case) cases)
posted-fits from between to F tells [] h = refl
posted-fits from between to F tells (case ∷ cases) h =
    let parts = both (fits from between case) (list_all (fits from between) cases) h in
    both_true (fits from to (with_posts (F case) case)) (list_all (fits from to) (map (λ case. with_posts (F case) case) cases)) (from_fitting from to (with_posts (F case) case) (tells case (fitting from between case parts.0)))
    (posted-fits from between to F tells cases parts.1)

pub appended : {X : Type 0} (test : X → Bool) (xs ys : List X) → IsTrue (list_all test xs) → IsTrue (list_all test ys) → IsTrue (list_all test (xs ++ ys))
appended test xs ys h k = list_all-append test xs ys ∙ both_true (list_all test xs) (list_all test ys) h k

pub columns-length : (first count : ℕ) → length (columns_from first count) ≡ count
columns-length first count = length-map-range_with_len (λ n. column_of (At n)) first count

pub columns-covered : (first count from aux : ℕ) → first + count ≤ from → IsTrue (list_all (every_column (is_below from aux)) (columns_from first count))
columns-covered first count from aux le = columns_pass (is_below from aux) (λ n. At n) first count (λ j ge lt. below-true j from (omega (arith, ge, lt, le)))

pub carrying-fits : (columns more : ℕ) (cases : List Case) → IsTransition columns columns cases → IsTransition (columns + more) (columns + more) (map (carrying_case columns more) cases)
carrying-fits columns more cases h =
    posted-fits (columns + more) columns (columns + more) (λ case. case.post ++ columns_from columns more)
    (λ case f. record {
      length_is = length-append case.post (columns_from columns more) ∙ (λ i. f.length_is i + columns-length columns more i);
      rows_are = f.rows_are;
      posts_are = appended (every_column (is_below (columns + more) case.aux)) case.post (columns_from columns more) f.posts_are (columns-covered columns more (columns + more) case.aux (omega arith));
    }) cases (raised-fits columns (columns + more) columns cases (omega arith) h)

pub fronted-fits : (from count to : ℕ) (cases : List Case) → count ≤ from → IsTransition from to cases → IsTransition from (count + to) (map (λ case. with_posts (columns_from 0 count ++ case.post) case) cases)
fronted-fits from count to cases le h =
    posted-fits from to (count + to) (λ case. columns_from 0 count ++ case.post)
    (λ case f. record {
      length_is = length-append (columns_from 0 count) case.post ∙ (λ i. columns-length 0 count i + f.length_is i);
      rows_are = f.rows_are;
      posts_are = appended (every_column (is_below from case.aux)) (columns_from 0 count) case.post (columns-covered 0 count from case.aux (omega (arith, le))) f.posts_are;
    }) cases h

-- ---- where a call has returned

all-set : {X : Type 0} (test : X → Bool) (xs : List X) (i : ℕ) (x : X) → IsTrue (list_all test xs) → IsTrue (test x) → IsTrue (list_all test (slice_set xs i x))
all-set test [] i x h k = refl
all-set test (y ∷ ys) zero x h k = let parts = both (test y) (list_all test ys) h in both_true (test x) (list_all test ys) k parts.1
all-set test (y ∷ ys) (suc i) x h k = let parts = both (test y) (list_all test ys) h in both_true (test y) (list_all test (slice_set ys i x)) parts.0 (all-set test ys i x parts.1 k)

all-take : {X : Type 0} (test : X → Bool) (n : ℕ) (xs : List X) → IsTrue (list_all test xs) → IsTrue (list_all test (take n xs))
all-take test zero xs h = refl
all-take test (suc n) [] h = refl
all-take test (suc n) (x ∷ xs) h = let parts = both (test x) (list_all test xs) h in both_true (test x) (list_all test (take n xs)) parts.0 (all-take test n xs parts.1)

all-drop : {X : Type 0} (test : X → Bool) (n : ℕ) (xs : List X) → IsTrue (list_all test xs) → IsTrue (list_all test (drop n xs))
all-drop test zero xs h = h
all-drop test (suc n) [] h = refl
all-drop test (suc n) (x ∷ xs) h = let parts = both (test x) (list_all test xs) h in all-drop test n xs parts.1

received-long : (into : Option ℕ) (value : Polynomial) (posts : List Polynomial) → length (posts_with_value into value posts) ≡ length posts
received-long None value posts = refl
received-long (Some col) value posts = length-set posts col value

received-covered : (test : Polynomial → Bool) (into : Option ℕ) (value : Polynomial) (posts : List Polynomial) → IsTrue (list_all test posts) → IsTrue (test value) → IsTrue (list_all test (posts_with_value into value posts))
received-covered test None value posts h k = h
received-covered test (Some col) value posts h k = all-set test posts col value h k

got-covered : (test : Polynomial → Bool) (n : ℕ) (posts : List Polynomial) → IsTrue (test (operand n record { aux = 0; rows = []; post = [] })) → IsTrue (list_all test posts) → IsTrue (test (operand n record { aux = 0; rows = []; post = posts }))
got-covered test n [] zero_passes h = zero_passes
got-covered test zero (post ∷ posts) zero_passes h = (both (test post) (list_all test posts) h).0
got-covered test (suc n) (post ∷ posts) zero_passes h = got-covered test n posts zero_passes (both (test post) (list_all test posts) h).1

pub exits-length : (count : ℕ) → length (exit_columns count) ≡ count
exits-length count = length-map-range_with_len (λ n. column_of (Aux n)) 0 count

exits-covered : (count from : ℕ) → IsTrue (list_all (every_column (is_below from count)) (exit_columns count))
exits-covered count from = columns_pass (is_below from count) (λ n. Aux n) 0 count (λ j ge lt. below-true j count (omega (arith, lt)))

module _ (columns globals : ℕ) (into : Option ℕ) (entry exit : ℕ) (enough : globals ≤ exit) (fewer : globals ≤ columns) where
  abbrev values : List Polynomial
  values = exit_columns exit

  abbrev back : List Polynomial
  back = take globals values ++ drop globals (cases.columns_of columns)

  back-length : length back ≡ columns
  back-length =
      length-append (take globals values) (drop globals (cases.columns_of columns))
      ∙ (λ i. length-take-le globals values (let long = exits-length exit in omega (arith, long, enough)) i + length-drop globals (cases.columns_of columns) i)
      ∙ together (columns-length 0 columns)
    where
      together : length (cases.columns_of columns) ≡ columns → globals + (length (cases.columns_of columns) - globals) ≡ columns
      together e = omega (arith, e, fewer)

  abbrev test : Polynomial → Bool
  test = every_column (is_below (columns + entry) exit)

  returned-covered : IsTrue (list_all test (posts_after_return columns globals into values))
  returned-covered =
      received-covered test into (operand globals record { aux = 0; rows = []; post = values }) back
      (appended test (take globals values) (drop globals (cases.columns_of columns)) (all-take test globals values (exits-covered exit (columns + entry)))
      (all-drop test globals (cases.columns_of columns) (columns-covered 0 columns (columns + entry) exit (omega arith))))
      (got-covered test globals values refl (exits-covered exit (columns + entry)))

  pub exit-fits : IsTransition (columns + entry) (columns + entry + exit) (call_exit columns globals into entry exit).cases
  exit-fits =
      let case : Case = record { aux = exit; rows = []; post = posts_after_return columns globals into values ++ (columns_from columns entry ++ values) } in
      both_true (fits (columns + entry) (columns + entry + exit) case) true
      (from_fitting (columns + entry) (columns + entry + exit) case record {
        length_is =
            length-append (posts_after_return columns globals into values) (columns_from columns entry ++ values)
            ∙ (λ i. (received-long into (operand globals record { aux = 0; rows = []; post = values }) back ∙ back-length) i
            + (length-append (columns_from columns entry) values ∙ (λ j. columns-length columns entry j + exits-length exit j)) i)
            ∙ omega arith;
        rows_are = refl;
        posts_are =
            appended test (posts_after_return columns globals into values) (columns_from columns entry ++ values) returned-covered
            (appended test (columns_from columns entry) values (columns-covered columns entry (columns + entry) exit (omega arith)) (exits-covered exit (columns + entry)));
      }) refl

-- ---- auxiliaries stay

pub fronted-few : (F : Case → List Polynomial) (few : ℕ → Type 0) (cases : List Case) → AllByRecursion (λ (case : Case). few case.aux) cases → AllByRecursion (λ (case : Case). few case.aux) (map (λ case. with_posts (F case) case) cases)
fronted-few F few [] h = tt
fronted-few F few (case ∷ cases) h = (h.0, fronted-few F few cases h.1)
