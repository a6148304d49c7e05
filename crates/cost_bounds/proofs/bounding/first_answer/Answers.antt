use Rattle.std.proofs.Common.{refl, ap}
use Rattle.posing.specs.Posing.{answer_to}
use Rattle.posing.proofs.Following.{stops}
use Rattle.posing.proofs.Steps.{in_other_words}
use Rattle.cost_bounds.proofs.bounding.first_answer.Goals as goal

pub returns-in_err-question : goal.returns-in_err-question
returns-in_err-question g c = stops _ _ _ _ _ _ refl c.from_residual.ensures.1

pub returns : goal.returns
returns g c = in_other_words (ap answer_to c.in_ok-question.ensures) c.ask.ensures
