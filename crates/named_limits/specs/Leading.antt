-- Where answers lead a computation, whatever they are worth, and which questions they answered.
use Rattle.std.specs.Prelude.{◌≡◌, List, ◌∷◌, ◌++◌}
use Rattle.farkas_check.specs.declared.answer.Answer.{Answer}
use Rattle.farkas_check.specs.declared.question.Question.{Question}
use Rattle.posing.specs.declared.note.Note.{Note}
use Rattle.posing.specs.Posing.{Posing, Asked, Path}

-- any answer will do
abbrev pub IsAny : Question → Answer → Type 0
IsAny question answer = Unit {0}

-- these notes and answers lead from one computation to what is left of it
abbrev pub LeadsTo : {A : Type 0} → Posing A → List Note → List Answer → Posing A → Type 0
LeadsTo p notes answers q = Path IsAny p notes answers q

-- The answers led the computation to a question, whose answer was this: those before it lead to
-- that question, and it is the next one.
pub record WasAsked {A : Type 0} (p : Posing A) (answers : List Answer) (question : Question)
    (answer : Answer) : Type 0 where
  pub before : List Answer
  pub after : List Answer
  pub is : answers ≡ before ++ answer ∷ after
  pub notes : List Note
  pub next : Answer → Posing A
  pub leads : LeadsTo p notes before (Asked question next)
