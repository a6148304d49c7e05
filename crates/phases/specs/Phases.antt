-- Phases of a loop: first turns that begin where some inequality is false, then turns that begin
-- where it is true.
use Rattle.std.specs.Prelude.{ℕ, zero, suc, List, [], ◌∷◌, ◌++◌, length, map, Bool, true, false, ◌&&◌, not, ◌==◌, nat_lt, Option, None, Some, Ok, Err, if◌then◌else◌}
use Rattle.linear_terms.specs.declared.row.Row.{Row}
use Rattle.linear_terms.specs.declared.row.Case.{Case}
use Rattle.linear_terms.specs.Expressions.{Made}
use Rattle.linear_terms.specs.Operations.{substituted_polynomial}
use Rattle.linear_terms.specs.Polynomial.{Polynomial}
use Rattle.linear_terms.specs.Replacement.{put_in}
use Rattle.transition_formula.specs.Composition.{sequence_of, losses_in_sequence}
use Rattle.transition_formula.specs.Loss.{error_losses}
use Rattle.transition_formula.specs.Rounds.{Ordered, in_order}
use Rattle.transition_formula.specs.Transition.{Transition}
use Rattle.farkas_check.specs.declared.question.Question.TheVariants.{Infeasible}
use Rattle.posing.specs.Logs.{loss_notes}
use Rattle.posing.specs.Posing.{Posing, Done, Noted, answer_to, ◌>>=◌}
use Rattle.polyhedra.specs.Infeasibility.{is_yes}
use Rattle.polyhedra.specs.Settle.{settled_formula}
use Rattle.polyhedra.specs.Squash.{fitted_formula}
use Rattle.polyhedra.specs.Vocabulary.{Vocabulary}
use Rattle.recurrence.specs.Star.{star_of}
use Rattle.phases.specs.declared.halving.Halves.{Halves}
use Rattle.phases.specs.Limits.{most_depth}
use Rattle.phases.specs.Splits.{inequality, contrary, splits}

-- ---- turns that begin where an inequality is true

-- the case with the inequality p <= 0 as one more row, behind its own
abbrev pub case_where : Polynomial → Case → Case
case_where p case = record {
  aux = case.aux;
  rows = case.rows ++ inequality p ∷ [];
  post = case.post;
}

-- the body with the inequality p <= 0 as one more row of each case
abbrev pub body_where : Polynomial → Transition → Transition
body_where p body = record {
  from = body.from;
  to = body.to;
  cases = map (case_where p) body.cases;
}

-- these turns, settled
unfoldable pub turns_where : Polynomial → Transition → Posing Transition
turns_where p body = settled_formula (body_where p body)

-- ---- whether no turn ends where an inequality is true

-- the answer calls the rows infeasible; nothing is noted. No rows exclude nothing
abbrev pub rows_exclude : List Row → Posing Bool
rows_exclude [] = Done false
rows_exclude (row ∷ rows) = answer_to (Infeasible (row ∷ rows)) >>= λ answer. Done (is_yes answer)

-- what is dropped excludes all
abbrev pub left_excludes : Option Case → Posing Bool
left_excludes None = Done true
left_excludes (Some case) = rows_exclude case.rows

-- whether a case put in order has infeasible rows, or nothing left; its losses are noted first
abbrev pub order_excludes : Ordered → Posing Bool
order_excludes order = Noted (loss_notes order.losses) (left_excludes order.left)

-- whether a case excludes an inequality on its posts; not where this cannot be made, which is noted
abbrev pub case_excludes_by : Case → Made → Posing Bool
case_excludes_by case (Ok q) = order_excludes (in_order (case_where q case))
case_excludes_by case (Err e) = Noted (loss_notes (error_losses e)) (Done false)

-- a case with the inequality on its posts, in order; losses are noted before the question
unfoldable pub case_excludes : Polynomial → Case → Posing Bool
case_excludes q case = case_excludes_by case (substituted_polynomial (put_in case.post []) q)

-- case by case; the first that does not ends it
abbrev pub cases_exclude : Polynomial → List Case → Posing Bool
cases_exclude q [] = Done true
cases_exclude q (case ∷ cases) = case_excludes q case >>= λ excluded. if excluded
    then cases_exclude q cases else Done false

-- ---- a split that stands

-- the formula has some case
abbrev pub has_cases : Transition → Bool
has_cases f = not (length f.cases == 0)

-- as many cases as
abbrev pub is_as_long : Transition → Transition → Bool
is_as_long f body = length f.cases == length body.cases

-- the second half has cases, and not both halves have as many as the body
abbrev pub is_apart : Transition → Transition → Transition → Bool
is_apart body first second = has_cases second
    && not (is_as_long first body && is_as_long second body)

-- two halves where the split stands; else None
abbrev pub halves_if : Transition → Transition → Bool → Option Halves
halves_if first second true = Some record { first = first; second = second }
halves_if first second false = None

-- the halves where no turn of the second ends where the contrary q <= 0 is true
unfoldable pub halves_of : Transition → Polynomial → Transition → Transition
    → Posing (Option Halves)
halves_of body q first second = if is_apart body first second
    then (cases_exclude q second.cases >>= λ excluded. Done (halves_if first second excluded))
    else Done None

-- the halves by a first one and the turns that begin where p <= 0 is true; None where the first has
-- no case
unfoldable pub with_first : Transition → Polynomial → Polynomial → Transition
    → Posing (Option Halves)
with_first body p q first = if has_cases first then turns_where p body >>= halves_of body q first
    else Done None

-- the halves by p <= 0 and its contrary; None where the contrary cannot be made
abbrev pub halves_by : Transition → Polynomial → Made → Posing (Option Halves)
halves_by body p (Ok q) = turns_where q body >>= with_first body p q
halves_by body p (Err e) = Done None

-- by p <= 0: the turns that begin where it is false, and those that begin where it is true. A
-- split whose contrary leaves 128 bits falls
unfoldable pub halves_at : Transition → Polynomial → Posing (Option Halves)
halves_at body p = halves_by body p (contrary p)

-- halves that are found; what follows where there are none
abbrev pub or_next : Option Halves → Posing (Option Halves) → Posing (Option Halves)
or_next None rest = rest
or_next (Some found) rest = Done (Some found)

-- the halves of the first split that stands
abbrev pub first_halves : Transition → List Polynomial → Posing (Option Halves)
first_halves body [] = Done None
first_halves body (p ∷ ps) = halves_at body p >>= λ found. or_next found (first_halves body ps)

-- a body of one case is not split
unfoldable pub split : Transition → Posing (Option Halves)
split body = if nat_lt (length body.cases) 2 then Done None else first_halves body (splits body)

-- ---- phases

-- one formula and then another; losses are noted before the first question
unfoldable pub in_turn : Vocabulary → Transition → Transition → Posing Transition
in_turn voc a b =
    Noted (loss_notes (losses_in_sequence a b)) (settled_formula (sequence_of a b) >>= λ g. fitted_formula g voc voc)

-- the first half and then the second, each by what `phases` makes of it; star of the body where it
-- is not split
abbrev pub star_by_halves : (Transition → Posing Transition) → Vocabulary → Transition → Option Halves
    → Posing Transition
star_by_halves phases voc body None = star_of body voc
star_by_halves phases voc body (Some found) =
    phases found.first >>= λ a. phases found.second >>= λ b. in_turn voc a b

-- both halves so deep, one and then the other; star where no split stands
abbrev pub phased_star : ℕ → Vocabulary → Transition → Posing Transition
phased_star zero voc body = star_of body voc
phased_star (suc depth) voc body = split body >>= star_by_halves (phased_star depth voc) voc body

-- phases of a body, split into halves no deeper than `most_depth`
unfoldable pub phases_of : Transition → Vocabulary → Posing Transition
phases_of body voc = phased_star most_depth voc body
