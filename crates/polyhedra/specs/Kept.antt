-- Goals whose rows are kept from one question to the next, while other objectives are put into them.
use Rattle.std.specs.Prelude.{◌≡◌, pos, List, [], ◌∷◌, ◌++◌, map, Result, Ok}
use Rattle.items.specs.Gives.{◌>>=◌}
use Rattle.linear_terms.specs.declared.error.TermError.{TermError}
use Rattle.linear_terms.specs.declared.row.Case.{Case}
use Rattle.linear_terms.specs.Expressions.{Made}
use Rattle.linear_terms.specs.Polynomial.{Polynomial, constant_of}
use Rattle.farkas_check.specs.declared.question.Goal.{Goal}

-- the rows of a case, with 0 for an objective
abbrev pub goal_over : Case → Goal
goal_over case = record {
  rows = case.rows;
  objective = constant_of (pos 0);
}

-- goals have the rows of cases, one after another
abbrev pub AreOver : List Case → List Goal → Type 0
AreOver cases goals = map (λ (goal : Goal). goal.rows) goals ≡ map (λ (case : Case). case.rows) cases

-- goals with objectives in the places of theirs, one after another
abbrev pub with_objectives : List Goal → List Polynomial → List Goal
with_objectives [] objectives = []
with_objectives (goal ∷ goals) [] = goal ∷ goals
with_objectives (goal ∷ goals) (p ∷ objectives) = record {
  rows = goal.rows;
  objective = p;
} ∷ with_objectives goals objectives

-- the objective of each case, or the first that cannot be made
abbrev pub objectives_of : (Case → Made) → List Case → Result (List Polynomial) TermError
objectives_of objective [] = Ok []
objectives_of objective (case ∷ cases) =
    objective case >>= λ p. objectives_of objective cases >>= λ objectives. Ok (p ∷ objectives)

-- objectives, and then those that are stated of what is left
abbrev pub objectives_behind : List Polynomial → Result (List Polynomial) TermError
    → Result (List Polynomial) TermError
objectives_behind made more = more >>= λ objectives. Ok (made ++ objectives)
