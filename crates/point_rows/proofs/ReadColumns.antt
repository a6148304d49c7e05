-- What holds of rows that are read: they have no columns but those of the posts, and their monomials
-- stand in print order.
use Rattle.std.proofs.Common.{◌≡◌, Bool, true, false, cond, pos, length, List, [], ◌∷◌, ◌++◌, Some, Result, Ok, Err, refl, ap, subst, ◌∙◌, arith}
use Rattle.std.specs.Prelude.{IsTrue}
use Rattle.std.specs.List.{AllByRecursion, list_all, list_any}
use Rattle.std.specs.Option.{option_map}
use Rattle.std.proofs.lemmas.List.Elements.{All-from_recursion, recursion_from_All}
use Rattle.std.proofs.lemmas.List.Folds.{list_all-append}
use Rattle.std.proofs.lemmas.Option.{option_and_then_some}
use Rattle.items.proofs.Each.{each-append, each-any, each-more, each_from_test, test_from_each}
use Rattle.items.proofs.Gives.{on_ok}
use Rattle.linear_terms.specs.declared.col.Col.{Col}
use Rattle.linear_terms.specs.declared.col.Col.TheVariants.{At, Aux}
use Rattle.linear_terms.specs.declared.error.TermError.{TermError}
use Rattle.linear_terms.specs.declared.row.Row.{Row}
use Rattle.linear_terms.specs.declared.row.Normal.{Normal}
use Rattle.linear_terms.specs.declared.row.Normal.TheVariants.{Constant, Kept}
use Rattle.linear_terms.specs.Operations.{substituted_polynomial}
use Rattle.linear_terms.specs.Polynomial.{IsCanonical, Polynomial, constant_of}
use Rattle.linear_terms.specs.Replacement.{put_in}
use Rattle.linear_terms.specs.Row.{normal_form}
use Rattle.linear_terms.proofs.Canonical.{IsCanonical-substituted}
use Rattle.linear_terms.proofs.Normals.{normal_form-HasCanonicalTerms}
use Rattle.row_products.specs.Products.{same_row}
use Rattle.transition_formula.specs.Rows.{each_once, normal_rows, opposites_met, with_normal}
use Rattle.transition_formula.specs.Transition.{every_column, is_below}
use Rattle.transition_formula.proofs.CarriedColumns.{passes, tidied-passes}
use Rattle.transition_formula.proofs.ColumnTests.{both, both_true, substituted-carries}
use Rattle.transition_formula.proofs.Fitting.{test_of_get, true-below}
use Rattle.point_rows.specs.Reading.{AreOverColumns, IsOverColumns, given_rows, read_row, rows_with_read, stood_row, stood_rows, with_new_row}
use Rattle.point_rows.specs.Laws.{GivenRowsAreCanonical, GivenRowsFit}

-- ---- columns

-- a row by itself is put in order by its normal form
normal_form-passes : (test : Col → Bool) (row other : Row) → normal_form row ≡ Ok (Kept other) → IsTrue (passes test row) → IsTrue (passes test other)
normal_form-passes test row other e h =
    (both (passes test other) true
    (tidied-passes test (row ∷ []) (other ∷ []) (ap (λ n. opposites_met (option_map each_once (with_normal n (normal_rows [])).rows)) e) (both_true (passes test row) true h refl))).0

pub appended : {A : Type 0} (test : A → Bool) (xs ys : List A) → IsTrue (list_all test xs) → IsTrue (list_all test ys) → IsTrue (list_all test (xs ++ ys))
appended test xs ys h k = list_all-append test xs ys ∙ both_true (list_all test xs) (list_all test ys) h k

module _ (test : Col → Bool) (posts : List Polynomial) (posts_are : IsTrue (list_all (every_column test) posts)) where
  put-covered : (c : Col) → IsTrue (is_below (length posts) 0 c) → IsTrue (every_column test (put_in posts [] c))
  put-covered (At n) h = test_of_get (every_column test) (constant_of (pos 0)) posts n posts_are (true-below n (length posts) h)
  put-covered (Aux n) h = let lt = true-below n 0 h in absurd (omega (arith, lt))

  read-covered : (row other : Row) → read_row posts row ≡ Ok (Kept other) → IsOverColumns (length posts) row → IsTrue (passes test other)
  read-covered row other e over =
      on_ok (substituted_polynomial (put_in posts []) row.poly) (λ p. normal_form record { poly = p; kind = row.kind }) (Kept other) e
      (λ p f g. normal_form-passes test record { poly = p; kind = row.kind } other g
      ((substituted-carries (put_in posts []) (is_below (length posts) 0) test put-covered).to row.poly p f over))

  stood-covered : (r : Result Normal TermError) → ((other : Row) → r ≡ Ok (Kept other) → IsTrue (passes test other)) → IsTrue (list_all (passes test) (stood_row r))
  stood-covered (Ok (Constant true)) covered = refl
  stood-covered (Ok (Constant false)) covered = refl
  stood-covered (Ok (Kept other)) covered = both_true (passes test other) true (covered other refl) refl
  stood-covered (Err e) covered = refl

  pub stood_rows-covered : (rows : List Row) → AreOverColumns (length posts) rows → IsTrue (list_all (passes test) (stood_rows posts rows))
  stood_rows-covered [] over = refl
  stood_rows-covered (row ∷ rows) over =
      let parts = both (passes (is_below (length posts) 0) row) (list_all (passes (is_below (length posts) 0)) rows) over in
      appended (passes test) (stood_row (read_row posts row)) (stood_rows posts rows)
      (stood-covered (read_row posts row) (λ other e. read-covered row other e parts.0)) (stood_rows-covered rows parts.1)

-- ---- rows that are given

module _ (P : Row → Type 0) where
  new-keeps : (rows : List Row) (row : Row) → AllByRecursion P rows → P row → AllByRecursion P (with_new_row rows row)
  new-keeps rows row each here = go (list_any (same_row row) rows)
    where
      go : (b : Bool) → AllByRecursion P (cond b rows (rows ++ row ∷ []))
      go true = each
      go false = each-append P rows (row ∷ []) each (here, tt)

  read-keeps : (own made : List Row) (r : Result Normal TermError) → ((other : Row) → r ≡ Ok (Kept other) → P other) → rows_with_read own r ≡ Some made → AllByRecursion P own → AllByRecursion P made
  read-keeps own made (Ok (Constant true)) keeps e each = let same : own ≡ made = cc in subst (AllByRecursion P) same each
  read-keeps own made (Ok (Constant false)) keeps e each = absurd cc
  read-keeps own made (Ok (Kept other)) keeps e each = let same : with_new_row own other ≡ made = cc in subst (AllByRecursion P) same (new-keeps own other each (keeps other refl))
  read-keeps own made (Err x) keeps e each = let same : own ≡ made = cc in subst (AllByRecursion P) same each

  -- what holds of the own rows and of each row that is read holds of what is given
  given-keeps : (posts : List Polynomial) (rows : List Row) → AllByRecursion (λ row. (other : Row) → read_row posts row ≡ Ok (Kept other) → P other) rows
      → (own all : List Row) → AllByRecursion P own → given_rows posts own rows ≡ Some all → AllByRecursion P all
  given-keeps posts [] keeps own all each e = let same : own ≡ all = cc in subst (AllByRecursion P) same each
  given-keeps posts (row ∷ rows) keeps own all each e =
      option_and_then_some (λ made. given_rows posts made rows) (rows_with_read own (read_row posts row)) all e
      (λ made f g. given-keeps posts rows keeps.1 made all (read-keeps own made (read_row posts row) keeps.0 f each) g)

read-canonical : (posts : List Polynomial) (row other : Row) → read_row posts row ≡ Ok (Kept other) → IsCanonical other.poly.terms
read-canonical posts row other e =
    on_ok (substituted_polynomial (put_in posts []) row.poly) (λ p. normal_form record { poly = p; kind = row.kind }) (Kept other) e
    (λ p f g. normal_form-HasCanonicalTerms record { poly = p; kind = row.kind } (Kept other) (IsCanonical-substituted (put_in posts []) row.poly p f) g)

-- ---- the laws

pub given_rows-fit : GivenRowsFit
given_rows-fit columns aux posts own rows all posts_are own_are over e =
    let test = is_below columns aux in
    test_from_each (passes test) (λ row. IsTrue (passes test row)) (λ row k. k) all
    (given-keeps (λ row. IsTrue (passes test row)) posts rows
    (each-more (IsOverColumns (length posts)) (λ row. (other : Row) → read_row posts row ≡ Ok (Kept other) → IsTrue (passes test other)) (λ row k other f. read-covered test posts posts_are row other f k) rows
    (each_from_test (passes (is_below (length posts) 0)) (IsOverColumns (length posts)) (λ row k. k) rows over))
    own all (each_from_test (passes test) (λ row. IsTrue (passes test row)) (λ row k. k) own own_are) e)

pub given_rows-canonical : GivenRowsAreCanonical
given_rows-canonical posts own rows all own_are e =
    All-from_recursion (λ (row : Row). IsCanonical row.poly.terms) all
    (given-keeps (λ (row : Row). IsCanonical row.poly.terms) posts rows
    (each-any (λ row. (other : Row) → read_row posts row ≡ Ok (Kept other) → IsCanonical other.poly.terms) (λ row other f. read-canonical posts row other f) rows)
    own all (recursion_from_All (λ (row : Row). IsCanonical row.poly.terms) own own_are) e)
