-- Formulas that change nothing.
use Rattle.std.specs.Prelude.{ℕ, List, map, IsTrue}
use Rattle.std.specs.List.{list_all, range_with_len}
use Rattle.linear_terms.specs.declared.col.Col.TheVariants.{At}
use Rattle.linear_terms.specs.declared.row.Case.{Case}
use Rattle.linear_terms.specs.Polynomial.{Polynomial, column_of}
use Rattle.transition_formula.specs.Transition.{Transition, every_column_of, is_below}

-- the columns as they are
abbrev pub columns_of : ℕ → List Polynomial
columns_of columns = map (λ n. column_of (At n)) (range_with_len 0 columns)

-- the case with other posts
abbrev pub with_posts : List Polynomial → Case → Case
with_posts post case = record { aux = case.aux; rows = case.rows; post = post }

-- where one of the cases is, all stays as it is
abbrev pub guard_of : ℕ → List Case → Transition
guard_of columns cases = record {
  from = columns;
  to = columns;
  cases = map (with_posts (columns_of columns)) cases;
}

-- the rows of each case have no columns but its auxiliaries and that many of the state
abbrev pub AreCovered : ℕ → List Case → Type 0
AreCovered columns cases =
    IsTrue (list_all (λ case. every_column_of (is_below columns case.aux) case) cases)
