-- The question made small: a row is left out where the question without it is answered yes. First
-- the inequalities of the case, from the last to the first, then its equations, and then the rows
-- of entry monomials.
use Rattle.std.specs.Prelude.{ℕ, ℤ, List, length, slice_get, Option, None, Some, Bool, true, false, if◌then◌else◌}
use Rattle.std.specs.List.{remove}
use Rattle.linear_terms.specs.declared.row.Kind.{Kind}
use Rattle.linear_terms.specs.declared.row.Kind.TheVariants.{AtMost, Equal}
use Rattle.linear_terms.specs.declared.row.Row.{Row}
use Rattle.farkas_check.specs.declared.answer.Answer.{Answer}
use Rattle.farkas_check.specs.declared.answer.Answer.TheVariants as answer
use Rattle.farkas_check.specs.declared.question.Question.{Question}
use Rattle.farkas_check.specs.declared.question.Question.TheVariants.{Infeasible}
use Rattle.posing.specs.Posing.{Posing, Done, answer_to, ◌>>=◌, down}
use Rattle.cost_bounds.specs.declared.kept.Kept.{Kept}
use Rattle.cost_bounds.specs.Questions.{cost_rows}

-- the multipliers of a yes
abbrev pub yes_of : Answer → Option (List ℤ)
yes_of (answer.Yes by) = Some by
yes_of (answer.No point) = None
yes_of (answer.Bound at certs case point) = None
yes_of (answer.Unbounded case point ray) = None
yes_of (answer.Basis relations spots free) = None
yes_of (answer.Limit limit) = None

-- rows of the case and rows of entry monomials, with the multipliers of the yes to their question
abbrev pub kept_part : List Row → List Row → List ℤ → Kept
kept_part rows entries by = record { rows = rows; entries = entries; by = by }

-- fewer rows, where the question of these was answered yes
abbrev pub fewer_rows : Kept → List Row → List Row → Option (List ℤ) → Kept
fewer_rows kept rows entries None = kept
fewer_rows kept rows entries (Some by) = kept_part rows entries by

-- the multipliers where a question is answered yes, else None
unfoldable pub yes_to : Question → Posing (Option (List ℤ))
yes_to question = answer_to question >>= λ answer. Done (yes_of answer)

-- fewer rows are tried
unfoldable pub trial : Row → Kept → List Row → List Row → Posing Kept
trial last kept rows entries = yes_to (Infeasible (cost_rows rows entries last))
    >>= λ by. Done (fewer_rows kept rows entries by)

-- whether two kinds are the same
abbrev pub is_of : Kind → Kind → Bool
is_of AtMost AtMost = true
is_of AtMost Equal = false
is_of Equal AtMost = false
is_of Equal Equal = true

-- the trial without the row at a place, where there is one and it is of the kind
abbrev pub row_trial : Kind → Row → Kept → ℕ → Option Row → Posing Kept
row_trial kind last kept place None = Done kept
row_trial kind last kept place (Some row) =
    if is_of kind row.kind then trial last kept (remove kept.rows place) kept.entries
    else Done kept

-- without the row at a place, if it is of the kind
unfoldable pub without_row : Kind → Row → Kept → ℕ → Posing Kept
without_row kind last kept place = row_trial kind last kept place (slice_get kept.rows place)

-- what is kept without the rows of the kind that can be left out, tried from the last to the first
abbrev pub without_rows : Kind → Row → Kept → Posing Kept
without_rows kind last kept = down (without_row kind last) kept (length kept.rows)

-- the trial without the entry monomial at a place, where there is one
abbrev pub entry_trial : Row → Kept → ℕ → Option Row → Posing Kept
entry_trial last kept place None = Done kept
entry_trial last kept place (Some row) = trial last kept kept.rows (remove kept.entries place)

-- without the entry monomial at a place
unfoldable pub without_entry : Row → Kept → ℕ → Posing Kept
without_entry last kept place = entry_trial last kept place (slice_get kept.entries place)

-- what is kept without the entry monomials that can be left out, tried from the last to the first
abbrev pub without_entries : Row → Kept → Posing Kept
without_entries last kept = down (without_entry last) kept (length kept.entries)

-- what is kept without all that can be left out: of the inequalities first, then of the equations,
-- then of the entry monomials
unfoldable pub least_kept : Row → Kept → Posing Kept
least_kept last kept = without_rows AtMost last kept >>= λ fewer. without_rows Equal last fewer
    >>= λ least. without_entries last least
