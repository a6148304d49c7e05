-- Two computations that pose questions about lists of rows.
use Rattle.std.specs.Prelude.{ℕ, ◌+◌, List, [], ◌∷◌, ◌++◌, Option, None, Some, Bool, true, false, if◌then◌else◌}
use Rattle.linear_terms.specs.declared.row.Row.{Row}
use Rattle.farkas_check.specs.declared.answer.Answer.{Answer}
use Rattle.farkas_check.specs.declared.answer.Answer.TheVariants as answer
use Rattle.farkas_check.specs.declared.question.Question.TheVariants.{Infeasible}
use Rattle.posing.specs.declared.note.Note.{Note}
use Rattle.posing.specs.declared.note.Note.TheVariants as note
use Rattle.posing.specs.Posing.{Posing, Done, Noted, answer_to, ◌>>=◌, each}

-- a limit as a note
abbrev pub limits_of : Answer → List Note
limits_of (answer.Yes by) = []
limits_of (answer.No point) = []
limits_of (answer.Bound at certs case point) = []
limits_of (answer.Unbounded case point ray) = []
limits_of (answer.Basis relations spots free) = []
limits_of (answer.Limit limit) = note.Limit limit ∷ []

-- the answer is yes
abbrev pub is_yes : Answer → Bool
is_yes (answer.Yes by) = true
is_yes (answer.No point) = false
is_yes (answer.Bound at certs case point) = false
is_yes (answer.Unbounded case point ray) = false
is_yes (answer.Basis relations spots free) = false
is_yes (answer.Limit limit) = false

-- whether the answer calls rows infeasible; a limit is noted
unfoldable pub exclusion : List Row → Posing Bool
exclusion rows = answer_to (Infeasible rows) >>= λ answer. Noted (limits_of answer)
    (Done (is_yes answer))

-- what is made, and then what is said of one more list
unfoldable pub with_exclusion : List Bool → List Row → Posing (List Bool)
with_exclusion made rows = exclusion rows >>= λ excluded. Done (made ++ excluded ∷ [])

-- whether rows are infeasible, of each list in order
abbrev pub exclusions : List (List Row) → Posing (List Bool)
exclusions lists = each with_exclusion [] lists

-- the place of the first list that is infeasible, counted from a number on
abbrev pub first_excluded : ℕ → List (List Row) → Posing (Option ℕ)
first_excluded place [] = Done None
first_excluded place (rows ∷ lists) = exclusion rows >>= λ excluded. if excluded
    then Done (Some place) else first_excluded (place + 1) lists
