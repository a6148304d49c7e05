use Rattle.std.proofs.Common.{refl, ap}
use Rattle.cost_bounds.specs.Small.{yes_to, trial}
use Rattle.posing.proofs.Following.{stops}
use Rattle.posing.proofs.Steps.{value_first, error_first, at_end}
use Rattle.cost_bounds.proofs.small.trial_without_entry.Goals as goal

pub returns-in_err-question : goal.returns-in_err-question
returns-in_err-question g c = stops _ _ _ _ _ _ refl c.from_residual.ensures.1

pub returns-in_err-by : goal.returns-in_err-by
unfolding trial
returns-in_err-by g c = error_first _ c.in_err-by.ensures (ap yes_to c.in_ok-question.ensures) c.from_residual-in_err-by.ensures.1

pub returns : goal.returns
unfolding trial
returns g c = value_first _ c.in_ok-by.ensures (ap yes_to c.in_ok-question.ensures) (at_end c.less_entry.ensures)
