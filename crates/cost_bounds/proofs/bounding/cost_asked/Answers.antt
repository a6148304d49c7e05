use Rattle.std.proofs.Common.{refl, ap}
use Rattle.farkas_check.specs.declared.question.Question.TheVariants.{Infeasible}
use Rattle.posing.specs.Posing.{answer_to}
use Rattle.posing.proofs.Following.{stops}
use Rattle.posing.proofs.Steps.{value_first, error_first, in_other_words}
use Rattle.cost_bounds.specs.Questions.{cost_rows}
use Rattle.cost_bounds.specs.Costs.{by_answer, cost_asked}
use Rattle.cost_bounds.proofs.bounding.cost_asked.Goals as goal

pub returns-in_err-entries : goal.returns-in_err-entries
returns-in_err-entries g c = stops _ _ _ _ _ _ refl c.from_residual.ensures.1

pub returns-in_err-answer : goal.returns-in_err-answer
unfolding cost_asked
returns-in_err-answer g c =
    error_first _ c.in_err-answer.ensures (ap (λ es. answer_to (Infeasible (cost_rows c.args.growth.rows.now es c.args.growth.last.now))) c.in_ok-entries.ensures) c.from_residual-in_err-answer.ensures.1

pub returns : goal.returns
unfolding cost_asked
returns g c =
    value_first _ c.in_ok-answer.ensures (ap (λ es. answer_to (Infeasible (cost_rows c.args.growth.rows.now es c.args.growth.last.now))) c.in_ok-entries.ensures)
    (in_other_words (ap (λ es. by_answer c.args.growth.change.now.rest c.args.growth.last.now c.args.growth.rows.now es c.in_ok-answer.answer) c.in_ok-entries.ensures) c.cost_by_answer.ensures)
