-- A case put in order, thinned and cut, as squashing and loops end.
use Rattle.std.specs.Prelude.{ℕ, ◌-◌, List, [], ◌∷◌, length, take, Option, None, Some, nat_le, if◌then◌else◌}
use Rattle.linear_terms.specs.declared.row.Case.{Case}
use Rattle.transition_formula.specs.Rounds.{in_order}
use Rattle.posing.specs.declared.note.Note.{Note}
use Rattle.posing.specs.declared.note.Note.TheVariants.{Cut}
use Rattle.posing.specs.Logs.{loss_notes}
use Rattle.posing.specs.Posing.{Posing, Done, Noted, ◌>>=◌}
use Rattle.polyhedra.specs.Thin.{thinned_case}

-- the greatest number that a note tells is 2^32 - 1
abbrev pub told_count : ℕ → ℕ
told_count n = if nat_le n 4294967295 then n else 4294967295

-- of so many rows the first 64 are kept; nothing is noted where there are no more
abbrev pub cut_notes : ℕ → List Note
cut_notes rows = if nat_le rows 64 then [] else Cut (told_count (rows - 64)) ∷ []

-- the case with the first 64 of its rows
abbrev pub cut_case : Case → Case
cut_case case = record { aux = case.aux; rows = take 64 case.rows; post = case.post }

-- the case cut to 64 rows, with a note of how many more there were
unfoldable pub cut : Case → Posing Case
cut case = Noted (cut_notes (length case.rows)) (Done (cut_case case))

-- a case that is left, thinned and then cut; None where none is
abbrev pub finished_left : Option Case → Posing (Option Case)
finished_left None = Done None
finished_left (Some case) = thinned_case case >>= λ left. cut left >>= λ kept. Done (Some kept)

-- what is left of the case, in order; losses are noted before the first question
unfoldable pub finish_of_case : Case → Posing (Option Case)
finish_of_case case = Noted (loss_notes (in_order case).losses) (finished_left (in_order case).left)
