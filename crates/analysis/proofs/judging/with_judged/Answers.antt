use Rattle.std.proofs.Common.{refl}
use Rattle.posing.proofs.Steps.{at_end, value_first}
use Rattle.analysis.specs.Judging.{with_judged}
use Rattle.analysis.proofs.judging.with_judged.Goals as goal

pub returns-clause-follows : goal.returns-clause-follows
unfolding with_judged
returns-clause-follows g c = value_first _ c.in_ok-judged.ensures.follows refl (at_end c.in_ok-push.ensures.ok)

pub returns-clause-added : goal.returns-clause-added
returns-clause-added g c = record { judged = c.in_ok-judged.judged; is = c.in_ok-push.ensures.ok; refuted = c.in_ok-judged.ensures.refuted; sound = λ enter hold. c.in_ok-judged.ensures.sound enter hold }
