-- What the code makes of a case, and what it asks for that.
use Rattle.std.specs.Prelude.{◌≡◌, ◌≤◌, ◌<◌, ◌^◌, ◌+◌, ℕ, IsTrue, List, [], ◌∷◌, ◌++◌, Some, true, get_or, length, slice_get}
use Rattle.std.specs.List.{AllByRecursion}
use Rattle.linear_terms.specs.declared.row.Case.{Case}
use Rattle.syntax_tree.specs.declared.program.Program.{Program}
use Rattle.syntax_tree.specs.Term.{Term}
use Rattle.syntax_tree.specs.Value.{State}
use Rattle.execution.specs.Step.{IsFalseIn}
use Rattle.transition_formula.specs.Meaning.{Holds}
use Rattle.transition_formula.specs.Transition.{Transition, fits}
use Rattle.leaf_cases.specs.Conditions.{columns_at}
use Rattle.polyhedra.specs.Laws.{HaveCanonicalRows}
use Rattle.point_rows.specs.Reading.{AreTrueOf}
use Rattle.point_rounds.specs.declared.round.PointRound.{PointRound}
use Rattle.point_rounds.specs.declared.round.StepFrom.{StepFrom}
use Rattle.point_rounds.specs.Table.{rows_at}
use Rattle.point_verdicts.specs.Exclusions.{leads_to_check, most_step_auxiliaries}

-- the case without auxiliaries, rows and posts
abbrev pub no_case : Case
no_case = record { aux = 0; rows = []; post = [] }

-- the first case of a formula, which has one
abbrev pub only_case : Transition → Case
only_case f = get_or f.cases 0 no_case

-- a formula of one case
abbrev pub formula_of_case : (from to : ℕ) → Case → Transition
formula_of_case from to case = record { from = from; to = to; cases = case ∷ [] }

-- a formula from no columns, by one case of few auxiliaries
pub record IsArrival (f : Transition) : Type 0 where
  pub is : f ≡ formula_of_case 0 f.to (only_case f)
  pub fits : IsTrue (fits 0 f.to (only_case f))
  pub few : (only_case f).aux ≤ most_step_auxiliaries

-- a case between states of so many columns, which are few, with few auxiliaries
pub record IsFailure (columns : ℕ) (bad : Case) : Type 0 where
  pub narrow : columns ≤ 63
  pub fits : IsTrue (fits columns columns bad)
  pub few : bad.aux < 2 ^ 31

-- so is each case of a formula between states of so many columns
pub record AreFailures (columns : ℕ) (falsity : Transition) : Type 0 where
  pub from : falsity.from ≡ columns
  pub each : AllByRecursion (IsFailure columns) falsity.cases

-- a case to the columns of a point and then as many columns more
abbrev pub IsArrivingCase : (columns : ℕ) → Case → Type 0
IsArrivingCase columns case = IsTrue (fits 0 (columns + columns) case)

-- each case of each step has rows whose monomials stand in print order
abbrev pub HaveCanonicalSteps : List StepFrom → Type 0
HaveCanonicalSteps steps =
    AllByRecursion (λ from. HaveCanonicalRows from.step.formula.cases) steps

-- ---- states at points and at assertions

-- the formula holds of each state of so many columns in which the condition is false, as a state that
-- stays
abbrev pub HoldsWhereFalse : (columns : ℕ) → Term → Transition → Type 0
HoldsWhereFalse columns cond f = (state : State) → length state ≡ columns → IsFalseIn cond state
    → Holds f state state

-- One of the steps leads to the assertion: it holds of a state at its point, of which the rows of
-- the table there are true, and of one at the assertion in which the condition is false.
pub record FailsByStep (program : Program) (round : PointRound) (proc check : ℕ) (cond : Term)
    : Type 0 where
  pub before : State
  pub after : State
  pub before_width : length before ≡ columns_at program proc
  pub after_width : length after ≡ columns_at program proc
  pub place : ℕ
  pub from : StepFrom
  pub is : slice_get round.steps place ≡ Some from
  pub leads : leads_to_check proc check from ≡ true
  pub holds : Holds from.step.formula [] (before ++ after)
  pub rows : AreTrueOf (rows_at program round.table proc from.node) before
  pub fails : IsFalseIn cond after
