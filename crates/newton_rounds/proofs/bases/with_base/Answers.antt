use Rattle.std.proofs.Common.{refl}
use Rattle.posing.proofs.Steps.{at_end, value_first}
use Rattle.newton_rounds.specs.Closure.{with_base}
use Rattle.newton_rounds.proofs.bases.with_base.Goals as goal

pub returns-clause-follows : goal.returns-clause-follows
unfolding with_base
returns-clause-follows g c = λ p is. value_first _ (c.in_ok-base.ensures.follows p is) refl (at_end c.in_ok-push.ensures.ok)

pub returns-clause-fits : goal.returns-clause-fits
returns-clause-fits g c = λ p is. record { base = c.in_ok-base.base; is = c.in_ok-push.ensures.ok; goes = c.in_ok-base.ensures.goes p is }
