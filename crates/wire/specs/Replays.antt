-- An oracle that hands out listed answers, each where it passes.
use Rattle.std.specs.Prelude.{◌≡◌, ℕ, false, Option, None, Some, List, [], ◌∷◌, length, drop, map, slice_index, slice_index_or}
use Rattle.farkas_check.specs.declared.answer.Answer.{Answer}
use Rattle.farkas_check.specs.declared.answer.Answer.TheVariants.{Limit}
use Rattle.farkas_check.specs.declared.answer.Limit.TheVariants.{Pivots}
use Rattle.farkas_check.specs.declared.question.Question.{Question}
use Rattle.farkas_check.specs.Tested.{passes}

-- what is seen of it: the answers that it has left in order, how many were taken, how often it
-- refused
pub record Replayed : Type 0 where
  pub left : List Answer
  pub taken : ℕ
  pub refusals : ℕ

-- the answer at a place
abbrev pub answer_at : List Answer → ℕ → Answer
answer_at answers place = slice_index_or answers place (Limit Pivots)

-- how many answers are handed out in all: each in its turn, or those at listed places
abbrev pub count_of : List Answer → Option (List ℕ) → ℕ
count_of answers None = length answers
count_of answers (Some places) = length places

-- the place of the next answer
abbrev pub next_place : Option (List ℕ) → ℕ → ℕ
next_place None taken = taken
next_place (Some places) taken = slice_index places taken

-- the next answer, meant where one is left
abbrev pub next_of : List Answer → Option (List ℕ) → ℕ → Answer
next_of answers places taken = answer_at answers (next_place places taken)

-- all answers behind those that were taken, in the order in which they are handed out
abbrev pub answers_left : List Answer → Option (List ℕ) → ℕ → List Answer
answers_left answers None taken = drop taken answers
answers_left answers (Some places) taken = map (answer_at answers) (drop taken places)

-- no answer is left, or the next one does not pass
abbrev pub IsMissing : List Answer → Question → Type 0
IsMissing [] question = Unit {0}
IsMissing (answer ∷ answers) question = passes question answer ≡ false
