-- The size of a question, and which questions are dead, slim or narrow. These words speak of the
-- question alone.
use Rattle.std.specs.Prelude.{◌≡◌, ◌⊎◌, ℕ, ◌+◌, ◌≤◌, pos, unsigned_abs, List, [], ◌∷◌, ◌++◌, map, length, slice_get, Some, ⊤}
use Rattle.std.specs.List.{AllByRecursion}
use Rattle.linear_terms.specs.declared.col.Col.{Col}
use Rattle.linear_terms.specs.declared.row.Kind.{Kind}
use Rattle.linear_terms.specs.declared.row.Kind.TheVariants.{AtMost, Equal}
use Rattle.linear_terms.specs.declared.row.Row.{Row}
use Rattle.linear_terms.specs.Polynomial.{Polynomial, IsCanonical}
use Rattle.farkas_check.specs.declared.question.Goal.{Goal}
use Rattle.farkas_check.specs.declared.question.Question.{Question}
use Rattle.farkas_check.specs.declared.question.Question.TheVariants.{Infeasible, Sup, Stratum}
use Rattle.farkas_check.specs.declared.stratum.Change.{Change}
use Rattle.farkas_check.specs.Columns.{columns}
use Rattle.farkas_check.specs.Rational.{RationalPoint, sum_at, Meets}
use Rattle.farkas_check.specs.Relations.{stratum_columns, term_count}
use Rattle.farkas_check.specs.Tested.{goal_columns}

-- ---- parts of a question

-- the rows of each case; the rows of an Infeasible question are its one case
abbrev pub case_rows : Question → List (List Row)
case_rows (Infeasible rows) = rows ∷ []
case_rows (Sup goals) = map (λ (goal : Goal). goal.rows) goals
case_rows (Stratum asked) = map (λ (case : Change). case.rows) asked.cases

-- the columns of each case; all cases of a Stratum question have the same, which are listed once
abbrev pub column_lists : Question → List (List (List Col))
column_lists (Infeasible rows) = columns rows [] ∷ []
column_lists (Sup goals) = map goal_columns goals
column_lists (Stratum asked) = stratum_columns asked.cases asked.lower ∷ []

-- the polynomials of rows, and then others
abbrev pub row_polys : List Row → List Polynomial → List Polynomial
row_polys rows others = map (λ (row : Row). row.poly) rows ++ others

-- the polynomials of cases with objectives
abbrev pub goal_polys : List Goal → List Polynomial
goal_polys [] = []
goal_polys (goal ∷ goals) = row_polys goal.rows (goal.objective ∷ goal_polys goals)

-- the polynomials of cases with terms, and then the lower terms
abbrev pub change_polys : List Change → List Polynomial → List Polynomial
change_polys [] lower = lower
change_polys (case ∷ cases) lower = row_polys case.rows (case.terms ++ change_polys cases lower)

-- the polynomials of a question: of its rows, and its objectives, or terms and lower terms
abbrev pub question_polys : Question → List Polynomial
question_polys (Infeasible rows) = row_polys rows []
question_polys (Sup goals) = goal_polys goals
question_polys (Stratum asked) = change_polys asked.cases asked.lower

-- ---- points

-- some rational point makes each of the rows true
pub record HasRationalPoint (rows : List Row) : Type 0 where
  pub point : RationalPoint
  pub met : Meets point rows

-- some case has no rational point
pub record HasEmptyCase (cases : List (List Row)) : Type 0 where
  pub place : ℕ
  pub rows : List Row
  pub is : slice_get cases place ≡ Some rows
  pub empty : HasRationalPoint rows → ⊥

-- A dead question may have no answer that passes but a limit: a Sup question without a case, or a
-- Sup or Stratum question one of whose cases has no rational point.
abbrev pub IsDead : Question → Type 0
IsDead (Infeasible rows) = ⊥
IsDead (Sup goals) = (goals ≡ []) ⊎ HasEmptyCase (case_rows (Sup goals))
IsDead (Stratum asked) = HasEmptyCase (case_rows (Stratum asked))

-- ---- slim

-- an equation counts as the two inequalities that it stands for
abbrev pub weight : Kind → ℕ
weight AtMost = 1
weight Equal = 2

-- how many inequalities the rows stand for
abbrev pub row_count : List Row → ℕ
row_count [] = 0
row_count (row ∷ rows) = weight row.kind + row_count rows

-- at most three columns, and at most twelve rows in each case
pub record IsSlim (question : Question) : Type 0 where
  pub few_columns : AllByRecursion (λ cs. length cs ≤ 3) (column_lists question)
  pub few_rows : AllByRecursion (λ rows. row_count rows ≤ 12) (case_rows question)

-- ---- narrow

-- each number of the polynomial is at most so great in magnitude
pub record HasNumbersUpTo (most : ℕ) (p : Polynomial) : Type 0 where
  pub terms : AllByRecursion (λ t. unsigned_abs t.1 ≤ most) p.terms
  pub rest : unsigned_abs p.rest ≤ most

-- no equation is stated or implied: a polynomial that is 0 at each rational point of the rows has
-- no monomial
abbrev pub HasNoEquation : List Row → Type 0
HasNoEquation rows = (p : Polynomial) → IsCanonical p.terms
    → ((point : RationalPoint) → Meets point rows → sum_at point p ≡ pos 0) → p.terms ≡ []

-- a case whose rows leave room in each direction
pub record HasRoom (case : Change) : Type 0 where
  pub point : HasRationalPoint case.rows
  pub free : HasNoEquation case.rows

-- some rational point makes the rows of the case true
abbrev pub GoalHasPoint : Goal → Type 0
GoalHasPoint goal = HasRationalPoint goal.rows

-- how great the numbers of a narrow question are at most, and what its cases are besides
abbrev pub narrow_most : Question → ℕ
narrow_most (Infeasible rows) = 64
narrow_most (Sup goals) = 64
narrow_most (Stratum asked) = 4

-- what narrow asks of the cases of each kind of question
abbrev pub HasNarrowCases : Question → Type 0
HasNarrowCases (Infeasible rows) = ⊤
HasNarrowCases (Sup goals) = (goals ≡ [] → ⊥) × AllByRecursion GoalHasPoint goals
HasNarrowCases (Stratum asked) = (term_count asked.cases ≤ 2) × AllByRecursion HasRoom asked.cases

-- A narrow question is one that elimination always answers: it is slim and has small numbers. A Sup
-- question has a case, and each case a point; a Stratum question has at most two terms, and no
-- equation in a case.
pub record IsNarrow (question : Question) : Type 0 where
  pub slim : IsSlim question
  pub few_cases : length (case_rows question) ≤ 4294967296
  pub small : AllByRecursion (HasNumbersUpTo (narrow_most question)) (question_polys question)
  pub cases : HasNarrowCases question
