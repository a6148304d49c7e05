use Rattle.std.proofs.Common.{refl, sym, ap}
use Rattle.items.proofs.Gives.{Gives-Ok, Gives-Err}
use Rattle.linear_terms.specs.TermError.{cause}
use Rattle.cost_bounds.specs.declared.cost.Cost.TheVariants.{Limit}
use Rattle.cost_bounds.specs.Costs.{cost_by_last}
use Rattle.posing.proofs.Following.{stops}
use Rattle.posing.proofs.Steps.{at_end, in_other_words}
use Rattle.cost_bounds.proofs.bounding.cost_by_last.Goals as goal

pub returns-in-Ok : goal.returns-in-Ok
unfolding cost_by_last
returns-in-Ok g c = λ stated gives.
    let same = Gives-Ok cause (λ r. r) c.args.last stated c.in-Ok.last c.in-Ok.is gives in
    in_other_words (ap (cost_by_last c.args.change.now c.args.rows.now) (sym same)) c.cost_asked.ensures

pub returns-in_ok-limit_of-in-Err : goal.returns-in_ok-limit_of-in-Err
unfolding cost_by_last
returns-in_ok-limit_of-in-Err g c = λ stated gives.
    let same = Gives-Err cause (λ r. r) c.args.last stated c.in-Err.error c.in-Err.error c.in-Err.is c.in_ok-limit_of-in-Err.ensures.told gives in
    in_other_words (ap (cost_by_last c.args.change.now c.args.rows.now) (sym same)) (at_end (ap Limit c.in_ok-limit_of-in-Err.ensures.is))

pub returns-in_err-limit_of-in-Err : goal.returns-in_err-limit_of-in-Err
returns-in_err-limit_of-in-Err g c = λ stated gives. stops _ _ _ _ _ _ refl c.from_residual.ensures.1
