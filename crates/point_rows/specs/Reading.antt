-- Rows over columns, read where these columns are posts: those that are given where a step begins,
-- those that stand where a procedure returns, and what is true at a step's end where a row is not.
use Rattle.std.specs.Prelude.{ℕ, ℤ, pos, List, [], ◌∷◌, ◌++◌, Option, None, Some, true, false, Result, Ok, Err, IsTrue, option_and_then, if◌then◌else◌}
use Rattle.std.specs.List.{flat_map, list_all, list_any}
use Rattle.items.specs.Gives.{◌>>=◌}
use Rattle.linear_terms.specs.declared.error.TermError.{TermError}
use Rattle.linear_terms.specs.declared.row.Kind.{Kind}
use Rattle.linear_terms.specs.declared.row.Kind.TheVariants.{AtMost, Equal}
use Rattle.linear_terms.specs.declared.row.Row.{Row}
use Rattle.linear_terms.specs.declared.row.Normal.{Normal}
use Rattle.linear_terms.specs.declared.row.Normal.TheVariants.{Constant, Kept}
use Rattle.linear_terms.specs.Expressions.{◌⊞◌, whole, at_most, negation}
use Rattle.linear_terms.specs.Operations.{substituted_polynomial}
use Rattle.linear_terms.specs.Polynomial.{Polynomial, constant_of}
use Rattle.linear_terms.specs.Replacement.{put_in}
use Rattle.linear_terms.specs.Row.{normal_form, RowsHold}
use Rattle.row_products.specs.Products.{never, same_row}
use Rattle.transition_formula.specs.Loss.{answer_of}
use Rattle.transition_formula.specs.Meaning.{numbers}
use Rattle.transition_formula.specs.Transition.{every_column, is_below}

-- ---- rows over columns

-- the row has none but the first so many entry columns, and no auxiliary
abbrev pub IsOverColumns : ℕ → Row → Type 0
IsOverColumns columns row = IsTrue (every_column (is_below columns 0) row.poly)

-- each row has none but these
abbrev pub AreOverColumns : ℕ → List Row → Type 0
AreOverColumns columns rows =
    IsTrue (list_all (λ row. every_column (is_below columns 0) row.poly) rows)

-- each row is true where the columns have the numbers of a state
abbrev pub AreTrueOf : List Row → List ℤ → Type 0
AreTrueOf rows state = RowsHold (numbers state (λ n. pos 0)) rows

-- ---- a row that is read

-- the row with the posts put in for the columns, in normal form
abbrev pub read_row : List Polynomial → Row → Result Normal TermError
read_row posts row =
    substituted_polynomial (put_in posts []) row.poly >>= λ p. normal_form record {
      poly = p;
      kind = row.kind;
    }

-- the rows, and behind them the row unless it is there
abbrev pub with_new_row : List Row → Row → List Row
with_new_row rows row = if list_any (same_row row) rows then rows else rows ++ row ∷ []

-- Rows with a row that was read. One that is true and one of which a step was lost add nothing;
-- None where it is false.
abbrev pub rows_with_read : List Row → Result Normal TermError → Option (List Row)
rows_with_read rows (Ok (Constant true)) = Some rows
rows_with_read rows (Ok (Constant false)) = None
rows_with_read rows (Ok (Kept row)) = Some (with_new_row rows row)
rows_with_read rows (Err e) = Some rows

-- the own rows, and behind them what the rows say where their columns are the posts; None as soon
-- as one of them is false there
abbrev pub given_rows : List Polynomial → List Row → List Row → Option (List Row)
given_rows posts own [] = Some own
given_rows posts own (row ∷ rows) =
    option_and_then (λ made. given_rows posts made rows) (rows_with_read own (read_row posts row))

-- ---- what stands of rows

-- what stands of a row that was read: nothing of a true one and of one of which a step was lost;
-- the row `1 <= 0` of a false one
abbrev pub stood_row : Result Normal TermError → List Row
stood_row (Ok (Constant true)) = []
stood_row (Ok (Constant false)) = never ∷ []
stood_row (Ok (Kept row)) = row ∷ []
stood_row (Err e) = []

-- what stands of rows, in order, where their columns are the posts
abbrev pub stood_rows : List Polynomial → List Row → List Row
stood_rows posts rows = flat_map (λ row. stood_row (read_row posts row)) rows

-- ---- what is true where a row is not

-- the row without columns that is true
abbrev pub always : Row
always = record { poly = constant_of (pos 0); kind = AtMost }

-- the row that says that a polynomial is negative: `p + 1 <= 0`
abbrev pub negative_row : Polynomial → Result Row TermError
negative_row p = at_most (Ok p ⊞ whole (pos 1))

-- what a contrary in normal form can be: a false one is left out
abbrev pub possible_rows : Normal → List Row
possible_rows (Constant true) = always ∷ []
possible_rows (Constant false) = []
possible_rows (Kept row) = row ∷ []

-- what it can be where its columns are the posts
abbrev pub contrary_by : List Polynomial → Result Row TermError → Result (List Row) TermError
contrary_by posts made =
    made >>= λ row. read_row posts row >>= λ form. Ok (possible_rows form)

-- the contraries of a row of the kind: that its polynomial is positive, and of an equation, behind
-- it, that it is negative
abbrev pub contraries_by : List Polynomial → Kind → Polynomial → Result (List Row) TermError
contraries_by posts AtMost p = contrary_by posts (negation p)
contraries_by posts Equal p =
    contrary_by posts (negation p) >>= λ positive. contrary_by posts (negative_row p)
    >>= λ negative. Ok (positive ++ negative)

-- The rows one of which is true where the row is not, its columns being the posts. None where a
-- step is lost; where there are none, the row is true of all that the posts can be.
abbrev pub contraries_of : List Polynomial → Row → Option (List Row)
contraries_of posts row = answer_of (contraries_by posts row.kind row.poly)
