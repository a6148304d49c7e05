-- Known formulas of procedures with rows that hold where the procedures return.
use Rattle.std.specs.Prelude.{◌≡◌, ℕ, ◌+◌, List, [], ◌∷◌, ◌++◌, Option, None, Some, map, slice_get, unwrap_or}
use Rattle.std.specs.Option.{option_map}
use Rattle.linear_terms.specs.declared.row.Row.{Row}
use Rattle.linear_terms.specs.declared.row.Case.{Case}
use Rattle.transition_formula.specs.Transition.{Transition}
use Rattle.leaf_cases.specs.Guard.{columns_of}
use Rattle.point_rows.specs.Reading.{AreOverColumns, stood_rows}

-- the case from so many columns, with what stands of the rows, of which these columns are the first
-- ones and the posts are those behind them, behind its own
abbrev pub case_with_exit_rows : ℕ → List Row → Case → Case
case_with_exit_rows from rows case = record {
  aux = case.aux;
  rows = case.rows ++ stood_rows (columns_of from ++ case.post) rows;
  post = case.post;
}

-- each case with the rows
abbrev pub with_exit_rows : List Row → Transition → Transition
with_exit_rows rows f = record {
  from = f.from;
  to = f.to;
  cases = map (case_with_exit_rows f.from rows) f.cases;
}

-- the formula with rows, if there are some
abbrev pub formula_with_rows : Option (List Row) → Transition → Transition
formula_with_rows None f = f
formula_with_rows (Some rows) f = with_exit_rows rows f

-- each known formula with the rows at its place; one past the end of the rows stays as it is
abbrev pub formulas_with_exits : List (Option Transition) → List (List Row) → List (Option Transition)
formulas_with_exits [] exits = []
formulas_with_exits (f ∷ known) [] = f ∷ known
formulas_with_exits (f ∷ known) (rows ∷ exits) =
    option_map (with_exit_rows rows) f ∷ formulas_with_exits known exits

-- the rows at the exit of a procedure; none past their end
abbrev pub exit_rows_at : List (List Row) → ℕ → List Row
exit_rows_at exits proc = unwrap_or (slice_get exits proc) []

-- the rows at the exit of a procedure are over the columns of its formula at the entry, and behind
-- them those at the exit
abbrev pub AreExitRows : Transition → List Row → Type 0
AreExitRows f rows = AreOverColumns (f.from + f.to) rows

-- the same of a formula that may be known
abbrev pub IsExitOf : Option Transition → List Row → Type 0
IsExitOf None rows = Unit {0}
IsExitOf (Some f) rows = AreExitRows f rows

-- the rows at the exit of each procedure of which a formula is known are such
pub record FitExits (known : List (Option Transition)) (exits : List (List Row)) : Type 0 where
  pub fit : (proc : ℕ) (f : Transition) → slice_get known proc ≡ Some (Some f)
      → AreExitRows f (exit_rows_at exits proc)
