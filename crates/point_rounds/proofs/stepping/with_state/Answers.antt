use Rattle.std.proofs.Common.{◌++◌, refl}
use Rattle.posing.specs.Posing.{Done}
use Rattle.posing.proofs.Following.{stops}
use Rattle.posing.proofs.Steps.{at_end, error_first, value_first}
use Rattle.point_rounds.specs.Rounds.{from_point, with_state}
use Rattle.point_rounds.proofs.StateSteps.{more-steps}
use Rattle.point_rounds.proofs.stepping.with_state.Goals as goal

pub returns-clause-follows : goal.returns-clause-follows
unfolding with_state
returns-clause-follows g c =
    value_first (λ steps. Done (c.args.made ++ from_point c.args.state.now steps)) c.in_ok-steps.ensures.follows refl (at_end c.in_ok-all.ensures)

pub returns-clause-more : goal.returns-clause-more
returns-clause-more g c =
    more-steps c.args.source.program.now c.args.source.known.now c.args.state.now c.requires.state c.args.made c.in_ok-all.all c.in_ok-steps.steps c.in_ok-all.ensures c.in_ok-steps.ensures.fits c.in_ok-steps.ensures.covers

pub returns-in_err-steps-clause-follows : goal.returns-in_err-steps-clause-follows
unfolding with_state
returns-in_err-steps-clause-follows g c =
    error_first (λ steps. Done (c.args.made ++ from_point c.args.state.now steps)) c.in_err-steps.ensures.follows refl c.from_residual.ensures.1

pub returns-in_err-all-clause-follows : goal.returns-in_err-all-clause-follows
unfolding with_state
returns-in_err-all-clause-follows g c =
    value_first (λ steps. Done (c.args.made ++ from_point c.args.state.now steps)) c.in_ok-steps.ensures.follows refl (stops _ _ _ _ _ _ refl c.from_residual-in_err-all.ensures.1)
