-- Rows at exits have no columns but those of the formula's cases.
use Rattle.std.proofs.Common.{◌≡◌, ℕ, ◌+◌, length, length-append, map, List, [], ◌∷◌, ◌++◌, refl, sym, ap, subst, ◌∙◌, arith}
use Rattle.std.specs.Prelude.{IsTrue}
use Rattle.std.specs.List.{list_all}
use Rattle.std.proofs.lemmas.List.FromFn.{length-map-range_with_len}
use Rattle.linear_terms.specs.declared.col.Col.TheVariants.{At}
use Rattle.linear_terms.specs.declared.row.Row.{Row}
use Rattle.linear_terms.specs.declared.row.Case.{Case}
use Rattle.linear_terms.specs.Polynomial.{Polynomial, column_of}
use Rattle.transition_formula.specs.Transition.{IsTransition, every_column, fits, is_below}
use Rattle.transition_formula.proofs.CarriedColumns.{passes}
use Rattle.transition_formula.proofs.ColumnTests.{both, both_true}
use Rattle.transition_formula.proofs.Fitting.{below-true, columns_pass, fitting, from_fitting}
use Rattle.leaf_cases.specs.Guard.{columns_of}
use Rattle.point_rows.specs.Reading.{AreOverColumns, stood_rows}
use Rattle.point_rows.specs.Exits.{case_with_exit_rows}
use Rattle.point_rows.proofs.ReadColumns.{appended, stood_rows-covered}

-- the columns and the posts behind them
pair-length : (from : ℕ) (posts : List Polynomial) → length (columns_of from ++ posts) ≡ from + length posts
pair-length from posts = length-append (columns_of from) posts ∙ ap (λ n. n + length posts) (length-map-range_with_len (λ n. column_of (At n)) 0 from)

pub over-pair : (from : ℕ) (posts pair : List Polynomial) (rows : List Row) → pair ≡ columns_of from ++ posts → AreOverColumns (from + length posts) rows → AreOverColumns (length pair) rows
over-pair from posts pair rows is over = subst (λ n. AreOverColumns n rows) (sym (ap length is ∙ pair-length from posts)) over

-- a case that fits, with rows at the exit
case-fits : (from to : ℕ) (rows : List Row) (case : Case) → IsTrue (fits from to case) → AreOverColumns (from + to) rows → IsTrue (fits from to (case_with_exit_rows from rows case))
case-fits from to rows case h over =
    let f = fitting from to case h in
    let below = is_below from case.aux in
    let pair = columns_of from ++ case.post in
    let wide : AreOverColumns (from + length case.post) rows = subst (λ n. AreOverColumns (from + n) rows) (sym f.length_is) over in
    let pair_are = appended (every_column below) (columns_of from) case.post (columns_pass below (λ n. At n) 0 from (λ j le lt. below-true j from (omega arith))) f.posts_are in
    from_fitting from to (case_with_exit_rows from rows case) record {
      length_is = f.length_is;
      rows_are = appended (passes below) case.rows (stood_rows pair rows) f.rows_are (stood_rows-covered below pair pair_are rows (over-pair from case.post pair rows refl wide));
      posts_are = f.posts_are;
    }

pub cases-fit : (from to : ℕ) (rows : List Row) (cases : List Case) → IsTransition from to cases → AreOverColumns (from + to) rows → IsTransition from to (map (case_with_exit_rows from rows) cases)
cases-fit from to rows [] h over = refl
cases-fit from to rows (case ∷ cases) h over =
    let parts = both (fits from to case) (list_all (fits from to) cases) h in
    both_true (fits from to (case_with_exit_rows from rows case)) (list_all (fits from to) (map (case_with_exit_rows from rows) cases)) (case-fits from to rows case parts.0 over) (cases-fit from to rows cases parts.1 over)

-- ---- for the code

abbrev case_of : ℕ → List Row → List Polynomial → Case
case_of aux rows post = record { aux = aux; rows = rows; post = post }

pub case_made : (from : ℕ) (case : Case) (rows all : List Row) (pair post : List Polynomial) → pair ≡ columns_of from ++ case.post → all ≡ case.rows ++ stood_rows pair rows → post ≡ case.post
    → case_of case.aux all post ≡ case_with_exit_rows from rows case
case_made from case rows all pair post is stood same = λ i. record {
  aux = case.aux;
  rows = (stood ∙ ap (λ ps. case.rows ++ stood_rows ps rows) is) i;
  post = same i;
}
