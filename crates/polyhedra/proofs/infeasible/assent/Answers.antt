use Rattle.std.proofs.Common.{◌≡◌, ◌∙◌, refl, ap}
use Rattle.farkas_check.specs.declared.question.Question.{Question}
use Rattle.polyhedra.specs.Infeasibility.{assent, noted_answer, is_yes}
use Rattle.posing.specs.Posing.{Done, ◌>>=◌}
use Rattle.posing.proofs.Steps.{value_first, error_first, in_other_words, at_end}
use Rattle.polyhedra.proofs.infeasible.assent.Goals as goal

answer-first : (question : Question) → (noted_answer question >>= λ answer. Done (is_yes answer)) ≡ assent question
unfolding assent noted_answer ◌>>=◌
answer-first question = refl

pub returns-in_err-answer : goal.returns-in_err-answer
returns-in_err-answer g c =
    in_other_words (answer-first c.args.question.now) (error_first _ c.in_err-answer.ensures refl c.from_residual.ensures.1)

pub returns : goal.returns
returns g c =
    in_other_words (answer-first c.args.question.now) (value_first _ c.in_ok-answer.ensures refl (at_end (c.is_yes.ensures ∙ ap is_yes c.get.ensures)))
