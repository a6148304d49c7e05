-- What a type that answers questions says of itself.
use Rattle.std.specs.Prelude.{ℕ, List, Option}
use Rattle.farkas_check.specs.declared.answer.Answer.{Answer}
use Rattle.farkas_check.specs.declared.question.Question.{Question}

-- What is known of the values of a type that answers questions. The first three are its own to
-- choose within the clauses of `ask`; the last is None where it does not tell what it will answer.
pub record Asking (S : Type 0) : Type 1 where
  -- how often it refused
  pub refusals : S → ℕ
  -- what is true of a question that it refuses
  pub declines : S → Question → Type 0
  -- the answers that it may give to a question, whatever its state
  pub allows : Question → Answer → Type 0
  -- the answers that it has left, in order, where it tells them
  pub left : S → Option (List Answer)
