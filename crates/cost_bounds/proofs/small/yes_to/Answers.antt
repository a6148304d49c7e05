use Rattle.std.proofs.Common.{refl}
use Rattle.cost_bounds.specs.Small.{yes_to}
use Rattle.posing.proofs.Steps.{value_first, error_first, at_end}
use Rattle.cost_bounds.proofs.small.yes_to.Goals as goal

pub returns-in_err-answer : goal.returns-in_err-answer
unfolding yes_to
returns-in_err-answer g c = error_first _ c.in_err-answer.ensures refl c.from_residual.ensures.1

pub returns : goal.returns
unfolding yes_to
returns g c = value_first _ c.in_ok-answer.ensures refl (at_end c.yes_of.ensures)
