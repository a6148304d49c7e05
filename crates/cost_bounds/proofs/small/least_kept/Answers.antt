use Rattle.std.proofs.Common.{refl}
use Rattle.cost_bounds.specs.Small.{least_kept}
use Rattle.posing.proofs.Steps.{value_first, error_first}
use Rattle.cost_bounds.proofs.small.least_kept.Goals as goal

pub returns-in_err-fewer : goal.returns-in_err-fewer
unfolding least_kept
returns-in_err-fewer g c = error_first _ c.in_err-fewer.ensures refl c.from_residual.ensures.1

pub returns-in_err-least : goal.returns-in_err-least
unfolding least_kept
returns-in_err-least g c =
    value_first _ c.in_ok-fewer.ensures refl (error_first _ c.in_err-least.ensures refl c.from_residual-in_err-least.ensures.1)

pub returns : goal.returns
unfolding least_kept
returns g c = value_first _ c.in_ok-fewer.ensures refl (value_first _ c.in_ok-least.ensures refl c.without_entries.ensures)
