-- Computations that ask questions. Each next question is determined by the answers before it.
use Rattle.std.specs.Prelude.{ℕ, zero, suc, List, [], ◌∷◌, ◌++◌, Bool, if◌then◌else◌}
use Rattle.farkas_check.specs.declared.answer.Answer.{Answer}
use Rattle.farkas_check.specs.declared.question.Question.{Question}
use Rattle.farkas_check.specs.Meaning.{IsTrueAnswer}
use Rattle.farkas_check.specs.Tested.{passes, Passes}
use Rattle.posing.specs.declared.note.Note.{Note}

-- it ends with a value, or makes notes and goes on, or asks a question and goes on by the answer
pub data Posing (A : Type 0) : Type 0 where
  Done : (value : A) → Posing A
  Noted : (notes : List Note) (next : Posing A) → Posing A
  Asked : (question : Question) (next : Answer → Posing A) → Posing A

infixl 10 ◌>>=◌
-- a computation, and then one by its value
unfoldable pub ◌>>=◌ : {A B : Type 0} → Posing A → (A → Posing B) → Posing B
(Done value) >>= f = f value
(Noted notes next) >>= f = Noted notes (next >>= f)
(Asked question next) >>= f = Asked question (λ answer. next answer >>= f)

-- a question, whose answer is the value
abbrev pub answer_to : Question → Posing Answer
answer_to question = Asked question (λ answer. Done answer)

-- a step for each element in order, by what is made so far
abbrev pub each : {A B : Type 0} → (B → A → Posing B) → B → List A → Posing B
each step made [] = Done made
each step made (x ∷ xs) = step made x >>= λ next. each step next xs

-- a step for each number below one, from the greatest down, by what is made so far
abbrev pub down : {B : Type 0} → (B → ℕ → Posing B) → B → ℕ → Posing B
down step made zero = Done made
down step made (suc n) = step made n >>= λ next. down step next n

-- rounds, each by what is made so far, until one says that it changed nothing, and no more than so
-- many
abbrev pub until : {B : Type 0} → (B → Posing (B × Bool)) → ℕ → B → Posing B
until step zero made = Done made
until step (suc n) made = step made >>= λ next. if next.1 then until step n next.0 else Done next.0

-- ---- under answers

-- what comes of it: a value with the notes and the answers that are not used, or the first question
-- whose answer is missing or does not pass, with the answers from there on
pub data Posed (A : Type 0) : Type 0 where
  Finished : (value : A) (notes : List Note) (left : List Answer) → Posed A
  Stuck : (question : Question) (left : List Answer) → Posed A

-- notes before those of an outcome
abbrev pub after_notes : {A : Type 0} → List Note → Posed A → Posed A
after_notes notes (Finished value more left) = Finished value (notes ++ more) left
after_notes notes (Stuck question left) = Stuck question left

-- a computation under listed answers, which are taken one after another
abbrev pub run : {A : Type 0} → Posing A → List Answer → Posed A
run (Done value) answers = Finished value [] answers
run (Noted notes next) answers = after_notes notes (run next answers)
run (Asked question next) [] = Stuck question []
run (Asked question next) (a ∷ answers) = if passes question a then run (next a) answers
    else Stuck question (a ∷ answers)

-- ---- whatever the answers

-- its value has a property, as long as the answers are true
abbrev pub Always : {A : Type 0} → (A → Type 0) → Posing A → Type 0
Always P (Done value) = P value
Always P (Noted notes next) = Always P next
Always P (Asked question next) = (answer : Answer) → IsTrueAnswer question answer
    → Always P (next answer)

-- its value has a property, as long as each answer is good for its question
abbrev pub AlwaysUnder : {A : Type 0} → (Question → Answer → Type 0) → (A → Type 0) → Posing A
    → Type 0
AlwaysUnder Good P (Done value) = P value
AlwaysUnder Good P (Noted notes next) = AlwaysUnder Good P next
AlwaysUnder Good P (Asked question next) = (answer : Answer) → Good question answer
    → AlwaysUnder Good P (next answer)

-- an answer that passes the test of its question, and is true. One of another kind than its question
-- asks for says nothing, but does not pass.
pub record IsPassing (question : Question) (answer : Answer) : Type 0 where
  pub is_true : IsTrueAnswer question answer
  pub passes : Passes question answer

-- its value has a property, as long as the answers pass
abbrev pub AlwaysPassing : {A : Type 0} → (A → Type 0) → Posing A → Type 0
AlwaysPassing P p = AlwaysUnder IsPassing P p

-- ---- how far answers lead

-- these notes and answers lead from one computation to what is left of it, and each answer is good
-- for the question posed
pub data Path {A : Type 0} (Good : Question → Answer → Type 0) : Posing A → List Note → List Answer
    → Posing A → Type 0 where
  here : (p : Posing A) → Path Good p [] [] p
  noted : (notes more : List Note) (answers : List Answer) (p q : Posing A)
      → Path Good p more answers q → Path Good (Noted notes p) (notes ++ more) answers q
  asked : (question : Question) (answer : Answer) (next : Answer → Posing A) (notes : List Note)
      (answers : List Answer) (q : Posing A)
      → Good question answer → Path Good (next answer) notes answers q
      → Path Good (Asked question next) notes (answer ∷ answers) q
