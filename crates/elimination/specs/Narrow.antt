-- What narrow asks of one case.
use Rattle.std.specs.Prelude.{ℕ, ◌≤◌, List, [], length, All}
use Rattle.linear_terms.specs.declared.row.Row.{Row}
use Rattle.linear_terms.specs.Polynomial.{Terms, Polynomial}
use Rattle.farkas_check.specs.declared.question.Goal.{Goal}
use Rattle.farkas_check.specs.declared.stratum.Change.{Change}
use Rattle.farkas_check.specs.Columns.{columns}
use Rattle.farkas_check.specs.Relations.{stratum_columns, term_count}
use Rattle.farkas_check.specs.Sizes.{row_count, HasRationalPoint, HasNoEquation, HasNumbersUpTo}

-- each number of each row is at most so great in magnitude
abbrev pub AreSmallRows : ℕ → List Row → Type 0
AreSmallRows most rows = All (λ (row : Row). HasNumbersUpTo most row.poly) rows

-- a case with few columns, few rows and small numbers; its columns are those of its rows and of one
-- more list of terms
pub record IsSmallCase (most : ℕ) (rows : List Row) (terms : Terms) : Type 0 where
  pub few_columns : length (columns rows terms) ≤ 3
  pub few_rows : row_count rows ≤ 12
  pub small : AreSmallRows most rows

-- a small case with an objective of small numbers
pub record IsSmallGoal (goal : Goal) : Type 0 where
  pub case : IsSmallCase 64 goal.rows goal.objective.terms
  pub objective : HasNumbersUpTo 64 goal.objective

-- such a case that has a point
pub record IsNarrowGoal (goal : Goal) : Type 0 where
  pub small : IsSmallGoal goal
  pub point : HasRationalPoint goal.rows

-- ---- Stratum

-- a small case with terms of small numbers
pub record IsSmallChange (case : Change) : Type 0 where
  pub rows : IsSmallCase 4 case.rows []
  pub terms : All (HasNumbersUpTo 4) case.terms

-- such a case that has a point, and no equation
pub record IsNarrowChange (case : Change) : Type 0 where
  pub small : IsSmallChange case
  pub point : HasRationalPoint case.rows
  pub free : HasNoEquation case.rows

-- few cases, terms and columns, and lower terms of small numbers
pub record IsSmallStratum (cases : List Change) (lower : List Polynomial) : Type 0 where
  pub few_columns : length (stratum_columns cases lower) ≤ 3
  pub few_cases : length cases ≤ 4294967296
  pub few_terms : term_count cases ≤ 2
  pub lower_too : All (HasNumbersUpTo 4) lower
