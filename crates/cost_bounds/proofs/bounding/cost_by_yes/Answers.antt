use Rattle.std.proofs.Common.{refl, ap}
use Rattle.posing.proofs.Following.{stops}
use Rattle.posing.proofs.Steps.{value_first, error_first, at_end}
use Rattle.cost_bounds.specs.Small.{least_kept}
use Rattle.cost_bounds.proofs.bounding.cost_by_yes.Goals as goal

pub returns-in_err-kept : goal.returns-in_err-kept
returns-in_err-kept g c = stops _ _ _ _ _ _ refl c.from_residual.ensures.1

pub returns-in_err-least : goal.returns-in_err-least
returns-in_err-least g c = error_first _ c.in_err-least.ensures (ap (least_kept c.args.growth.last.now) c.in_ok-kept.ensures) c.from_residual-in_err-least.ensures.1

pub returns-in_err-kept_bound : goal.returns-in_err-kept_bound
returns-in_err-kept_bound g c = value_first _ c.in_ok-least.ensures (ap (least_kept c.args.growth.last.now) c.in_ok-kept.ensures) (stops _ _ _ _ _ _ refl c.from_residual-in_err-kept_bound.ensures.1)

pub returns : goal.returns
returns g c = value_first _ c.in_ok-least.ensures (ap (least_kept c.args.growth.last.now) c.in_ok-kept.ensures) (at_end c.in_ok-kept_bound.ensures)
