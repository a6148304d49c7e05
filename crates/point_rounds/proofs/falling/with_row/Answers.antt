use Rattle.std.proofs.Common.{refl}
use Rattle.posing.specs.Posing.{Done}
use Rattle.posing.proofs.Following.{stops}
use Rattle.posing.proofs.Steps.{at_end, error_first, value_first}
use Rattle.point_rounds.specs.Rounds.{unless_shown, with_row}
use Rattle.point_rounds.proofs.falling.with_row.Goals as goal

pub returns-clause-follows : goal.returns-clause-follows
unfolding with_row
returns-clause-follows g c =
    value_first (λ shown. Done (unless_shown c.args.read.place c.args.read.number c.args.fell shown)) c.in_ok-shown.ensures.follows refl (at_end c.in_ok-unless_shown.ensures)

pub returns-in_err-shown-clause-follows : goal.returns-in_err-shown-clause-follows
unfolding with_row
returns-in_err-shown-clause-follows g c =
    error_first (λ shown. Done (unless_shown c.args.read.place c.args.read.number c.args.fell shown)) c.in_err-shown.ensures.follows refl c.from_residual.ensures.1

pub returns-in_err-unless_shown-clause-follows : goal.returns-in_err-unless_shown-clause-follows
unfolding with_row
returns-in_err-unless_shown-clause-follows g c =
    value_first (λ shown. Done (unless_shown c.args.read.place c.args.read.number c.args.fell shown)) c.in_ok-shown.ensures.follows refl (stops _ _ _ _ _ _ refl c.from_residual-in_err-unless_shown.ensures.1)
