use Rattle.std.proofs.Common.{◌∷◌, [], refl}
use Rattle.posing.proofs.Steps.{at_end, value_first}
use Rattle.newton_rounds.specs.Closure.{with_sides}
use Rattle.newton_rounds.proofs.sides.with_sides.Goals as goal

pub returns-clause-follows : goal.returns-clause-follows
unfolding with_sides
returns-clause-follows g c = λ p is. value_first _ (c.in_ok-sides.ensures.follows p is) refl (at_end c.in_ok-push.ensures.ok)

pub returns-clause-fits : goal.returns-clause-fits
returns-clause-fits g c = λ p is. record {
  more = c.in_ok-sides.sides ∷ [];
  is = c.in_ok-push.ensures.ok;
  many = refl;
  fit = (c.in_ok-sides.ensures.fits p is, tt);
}
