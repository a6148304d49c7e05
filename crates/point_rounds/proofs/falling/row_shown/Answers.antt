use Rattle.std.proofs.Common.{ap, refl}
use Rattle.posing.proofs.Following.{stops}
use Rattle.posing.proofs.Steps.{in_other_words}
use Rattle.point_rounds.specs.Rounds.{none_possible, row_shown}
use Rattle.point_rounds.proofs.falling.row_shown.Goals as goal

pub returns-clause-follows : goal.returns-clause-follows
unfolding row_shown
returns-clause-follows g c = in_other_words (ap (none_possible c.args.given.now) c.in_ok-rows.ensures) c.none_possible.ensures.follows

pub returns-in_err-rows-clause-follows : goal.returns-in_err-rows-clause-follows
returns-in_err-rows-clause-follows g c = stops _ _ _ _ _ _ refl c.from_residual.ensures.1
