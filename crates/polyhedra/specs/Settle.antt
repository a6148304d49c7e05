-- Settling: each case is put in order and dropped where an answer calls its rows infeasible.
use Rattle.std.specs.Prelude.{List, [], ◌∷◌, ◌++◌, Option, None, Some, Bool, if◌then◌else◌, option_to_list}
use Rattle.linear_terms.specs.declared.row.Row.{Row}
use Rattle.linear_terms.specs.declared.row.Case.{Case}
use Rattle.transition_formula.specs.Rounds.{in_order}
use Rattle.transition_formula.specs.Transition.{Transition}
use Rattle.posing.specs.Logs.{loss_notes}
use Rattle.posing.specs.Posing.{Posing, Done, Noted, ◌>>=◌, each}
use Rattle.polyhedra.specs.Infeasibility.{infeasible}

-- the case; None where it is dropped
abbrev pub unless : Bool → Case → Option Case
unless drops case = if drops then None else Some case

-- a case without rows is kept
abbrev pub feasible_by : Case → List Row → Posing (Option Case)
feasible_by case [] = Done (Some case)
feasible_by case (row ∷ rows) = infeasible case.rows >>= λ drops. Done (unless drops case)

-- the case; None where an answer calls its rows infeasible
unfoldable pub feasible : Case → Posing (Option Case)
feasible case = feasible_by case case.rows

-- a case that is left, unless an answer calls its rows infeasible; None where none is left
abbrev pub feasible_left : Option Case → Posing (Option Case)
feasible_left None = Done None
feasible_left (Some case) = feasible case

-- what is left of a case in order, unless an answer calls it infeasible; losses are noted before
-- the question
unfoldable pub settled_case : Case → Posing (Option Case)
settled_case case = Noted (loss_notes (in_order case).losses) (feasible_left (in_order case).left)

-- the cases made, and behind them what is left of one more
unfoldable pub with_settled : List Case → Case → Posing (List Case)
with_settled made case = settled_case case >>= λ left. Done (made ++ option_to_list left)

-- case by case
abbrev pub settled_cases : List Case → Posing (List Case)
settled_cases cases = each with_settled [] cases

-- the formula of what is left of each case, between the same columns
unfoldable pub settled_formula : Transition → Posing Transition
settled_formula f = settled_cases f.cases >>= λ cases. Done record {
  from = f.from;
  to = f.to;
  cases = cases;
}
