use Rattle.std.proofs.Common.{◌≡◌, ◌∙◌, List, Ok, refl, ap}
use Rattle.farkas_check.specs.declared.question.Goal.{Goal}
use Rattle.farkas_check.specs.declared.question.Question.TheVariants.{Sup}
use Rattle.polyhedra.specs.Infeasibility.{noted_answer}
use Rattle.polyhedra.specs.Bounds.{bound_by, bound_in}
use Rattle.posing.specs.Posing.{Done, ◌>>=◌}
use Rattle.posing.proofs.Steps.{value_first, error_first, in_other_words, at_end}
use Rattle.polyhedra.proofs.bounds.ask_bound.Goals as goal

answer-first : (goals : List Goal) → (noted_answer (Sup goals) >>= λ answer. Done (bound_in answer)) ≡ bound_by (Ok goals)
unfolding bound_by noted_answer ◌>>=◌
answer-first goals = refl

pub returns-in_err-answer : goal.returns-in_err-answer
returns-in_err-answer g c = λ goals same.
    in_other_words (answer-first goals) (error_first _ c.in_err-answer.ensures (ap noted_answer same) c.from_residual.ensures.1)

pub returns : goal.returns
returns g c = λ goals same.
    in_other_words (answer-first goals) (value_first _ c.in_ok-answer.ensures (ap noted_answer same) (at_end (c.bound_in.ensures ∙ ap bound_in c.get.ensures)))
