-- A case put in order: rows are tidied and an equation is solved, again and again, until none can
-- be.
use Rattle.std.specs.Prelude.{ℕ, zero, suc, List, [], ◌++◌, length, slice_get, Option, None, Some, Result, Ok, Err}
use Rattle.std.specs.List.{remove}
use Rattle.linear_terms.specs.declared.error.TermError.{TermError}
use Rattle.linear_terms.specs.declared.row.Row.{Row}
use Rattle.linear_terms.specs.declared.row.Case.{Case}
use Rattle.linear_terms.specs.Polynomial.{Polynomial}
use Rattle.transition_formula.specs.declared.loss.Loss.{Loss}
use Rattle.transition_formula.specs.declared.solving.Solved.{Solved}
use Rattle.transition_formula.specs.declared.solving.Solved.TheVariants.{Kept, False}
use Rattle.transition_formula.specs.Loss.{error_losses}
use Rattle.transition_formula.specs.Composition.{by, losses_by}
use Rattle.transition_formula.specs.Rows.{tidied_rows}
use Rattle.transition_formula.specs.Order.{first_equation, solution, with_solution}
use Rattle.transition_formula.specs.Renumbering.{renumbered_case}

-- the case that is left, or nothing where it holds of nothing; and the losses on the way
pub record Ordered : Type 0 where
  pub left : Option Case
  pub losses : List Loss

-- what is left of a case, with earlier losses before its own
abbrev pub after_losses : List Loss → Ordered → Ordered
after_losses losses rest = record { left = rest.left; losses = losses ++ rest.losses }

-- the case with other rows
abbrev pub with_rows : Case → List Row → Case
with_rows case rows = record { aux = case.aux; rows = rows; post = case.post }

-- nothing is left to solve
abbrev pub end_of_order : Case → Ordered
end_of_order case = record { left = Some (renumbered_case case); losses = [] }

-- the equation is left out and its solution put in; an equation whose solution leaves 128 bits is
-- lost
abbrev pub with_solved : Result Polynomial TermError → ℕ → Case → Case
with_solved (Ok p) n case = by (with_solution n p) case
with_solved (Err e) n case = case

-- the losses where a solution is put in, or that of the solution itself where it cannot be made
abbrev pub losses_with_solved : Result Polynomial TermError → ℕ → Case → List Loss
losses_with_solved (Ok p) n case = losses_by (with_solution n p) case
losses_with_solved (Err e) n case = error_losses e

-- the first equation that can be solved is solved, and another round follows
abbrev pub round_at : (Case → Ordered) → Case → ℕ → Option Row → Ordered
round_at next left n None = end_of_order left
round_at next left n (Some row) =
    after_losses (losses_with_solved (solution row.poly n) n left)
    (next (with_solved (solution row.poly n) n left))

-- what comes of a case by the place and the auxiliary of the first equation that can be solved;
-- where there is none, the end
abbrev pub solved_first : (Case → Ordered) → Case → Option (ℕ × ℕ) → Ordered
solved_first next case None = end_of_order case
solved_first next case (Some found) = round_at next (with_rows case (remove case.rows found.0))
    found.1 (slice_get case.rows found.0)

-- one round over tidied rows; nothing is left of the case where these can't all be true
abbrev pub round : (Case → Ordered) → Case → Option (List Row) → Ordered
round next case None = record { left = None; losses = [] }
round next case (Some rows) = solved_first next (with_rows case rows) (first_equation rows)

-- Each round that is followed by another leaves out an equation. So as many rounds as there are
-- rows are enough: after them no row is left.
abbrev pub rounds : ℕ → Case → Ordered
rounds zero case = end_of_order case
rounds (suc more) case =
    after_losses (tidied_rows case.rows).losses (round (rounds more) case (tidied_rows case.rows).rows)

-- the case put in order
abbrev pub in_order : Case → Ordered
in_order case = rounds (length case.rows) case

-- how the code answers it
abbrev pub solved_answer : Option Case → Solved
solved_answer None = False
solved_answer (Some case) = Kept case

-- it holds of the case, if there is one
abbrev pub Stays : (Case → Type 0) → Solved → Type 0
Stays P False = Unit {0}
Stays P (Kept case) = P case
