use Rattle.std.proofs.Common.{◌∷◌, [], ◌++◌, refl}
use Rattle.posing.specs.Posing.{Done}
use Rattle.posing.proofs.Steps.{at_end, value_first}
use Rattle.newton_rounds.specs.Close.{with_candidate}
use Rattle.newton_rounds.proofs.closing.with_candidate.Goals as goal

pub returns : goal.returns
unfolding with_candidate
returns g c = value_first (λ rows. Done (c.args.made ++ rows ∷ [])) c.in_ok-rows.ensures.follows refl (at_end c.in_ok-push.ensures.ok)
