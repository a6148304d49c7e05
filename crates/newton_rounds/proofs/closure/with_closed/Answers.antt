use Rattle.std.proofs.Common.{◌∷◌, [], ◌++◌, refl}
use Rattle.posing.specs.Posing.{Done}
use Rattle.posing.proofs.Steps.{at_end, value_first}
use Rattle.newton_rounds.specs.Closure.{with_closed}
use Rattle.newton_rounds.proofs.closure.with_closed.Goals as goal

pub returns : goal.returns
unfolding with_closed
returns g c = value_first (λ f. Done (c.args.made ++ f ∷ [])) c.in_ok-f.ensures refl (at_end c.in_ok-push.ensures.ok)
