-- What the finder answers.
use Rattle.std.specs.Prelude.{◌-◌, ◌^◌}
use Rattle.farkas_check.specs.declared.answer.Answer.{Answer}
use Rattle.farkas_check.specs.declared.question.Question.{Question}
use Rattle.farkas_check.specs.Calm.{IsCalm, IsLiveAndCalm}
use Rattle.farkas_check.specs.Meaning.{IsLimit, IsTight}
use Rattle.farkas_check.specs.Sizes.{IsNarrow}
use Rattle.farkas_check.specs.Tested.{Passes}
use Rattle.simplex.specs.Answers.{IsWide}
use Rattle.simplex.specs.Whole.{PivotsIn}

-- An answer passes the test of its question, and is the truth about rational points unless it is a
-- limit. No limit comes to a live and calm question, and none to a narrow one. One that names a
-- step comes only to a question that is not calm; `Pivots` comes only to a dead question, and where
-- a case has more choices of columns than turns.
pub record IsFound (question : Question) (a : Answer) : Type 0 where
  pub passes : Passes question a
  pub tight : (IsLimit a → ⊥) → IsTight question a
  pub live : IsLiveAndCalm question → IsLimit a → ⊥
  pub narrow : IsNarrow question → IsLimit a → ⊥
  pub calm : IsCalm question → IsWide a → ⊥
  pub pivots : PivotsIn (2 ^ 127 - 1) question a

-- what simplex owes of its answer
pub record IsFoundBySimplex (question : Question) (a : Answer) : Type 0 where
  pub passes : Passes question a
  pub tight : (IsLimit a → ⊥) → IsTight question a
  pub live : IsLiveAndCalm question → IsLimit a → ⊥
  pub calm : IsCalm question → IsWide a → ⊥
  pub pivots : PivotsIn (2 ^ 127 - 1) question a
