-- What is taken from the answer to a question: whether rows are infeasible, and the limit that it
-- names.
use Rattle.std.specs.Prelude.{List, [], ◌∷◌, Bool, true, false}
use Rattle.linear_terms.specs.declared.row.Row.{Row}
use Rattle.farkas_check.specs.declared.answer.Answer.{Answer}
use Rattle.farkas_check.specs.declared.answer.Answer.TheVariants as answer
use Rattle.farkas_check.specs.declared.question.Question.{Question}
use Rattle.farkas_check.specs.declared.question.Question.TheVariants.{Infeasible}
use Rattle.posing.specs.declared.note.Note.{Note}
use Rattle.posing.specs.declared.note.Note.TheVariants as note
use Rattle.posing.specs.Posing.{Posing, Done, Noted, answer_to, ◌>>=◌}

-- a limit as a note
abbrev pub limits_of : Answer → List Note
limits_of (answer.Yes by) = []
limits_of (answer.No point) = []
limits_of (answer.Bound at certs case point) = []
limits_of (answer.Unbounded case point ray) = []
limits_of (answer.Basis relations spots free) = []
limits_of (answer.Limit limit) = note.Limit limit ∷ []

-- the answer is yes
abbrev pub is_yes : Answer → Bool
is_yes (answer.Yes by) = true
is_yes (answer.No point) = false
is_yes (answer.Bound at certs case point) = false
is_yes (answer.Unbounded case point ray) = false
is_yes (answer.Basis relations spots free) = false
is_yes (answer.Limit limit) = false

-- the answer to a question; a limit is noted
unfoldable pub noted_answer : Question → Posing Answer
noted_answer question = answer_to question >>= λ answer. Noted (limits_of answer) (Done answer)

-- whether the answer to a question is yes; a limit is noted
unfoldable pub assent : Question → Posing Bool
assent question = answer_to question >>= λ answer. Noted (limits_of answer) (Done (is_yes answer))

-- whether the answer calls rows infeasible
abbrev pub infeasible : List Row → Posing Bool
infeasible rows = assent (Infeasible rows)
