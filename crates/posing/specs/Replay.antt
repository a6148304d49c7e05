-- An oracle that hands out listed answers, and what a computation comes to under them.
use Rattle.std.specs.Prelude.{◌≡◌, ℕ, ◌-◌, List, [], ◌∷◌, length, Some, false}
use Rattle.farkas_check.specs.declared.answer.Answer.{Answer}
use Rattle.farkas_check.specs.declared.question.Question.{Question}
use Rattle.farkas_check.specs.Asking.{Asking}
use Rattle.posing.specs.declared.note.Note.{Note}
use Rattle.farkas_check.specs.Tested.{passes}
use Rattle.posing.specs.Posing.{Posing, Done, Path}

-- the next answer is missing, or does not pass
abbrev pub IsMissing : Question → List Answer → Type 0
IsMissing question [] = Unit {0}
IsMissing question (answer ∷ answers) = passes question answer ≡ false

-- what it refuses is a question whose next answer is missing or does not pass
pub record IsReplay {S : Type 0} (O : Asking S) : Type 0 where
  pub missing : (state : S) (question : Question) (left : List Answer) → O.left state ≡ Some left
      → O.declines state question → IsMissing question left

-- the number of the question at which it stopped, from 0
abbrev pub stop_number : List Answer → List Answer → ℕ
stop_number all left = length all - length left

-- notes and answers that were kept lead a computation to its value, each answer good for its
-- question
pub record Keeps {A : Type 0} (Good : Question → Answer → Type 0) (p : Posing A) (value : A)
    (notes : List Note) (answers : List Answer) : Type 0 where
  pub path : Path Good p notes answers (Done value)
