use Rattle.std.proofs.Common.{refl}
use Rattle.context.specs.Verdicts.{with_verdict}
use Rattle.posing.proofs.Steps.{value_first, at_end}
use Rattle.context.proofs.judging.with_verdict.Goals as goal

pub returns-clause-follows : goal.returns-clause-follows
unfolding with_verdict
returns-clause-follows g c = value_first _ c.in_ok-verdict.ensures.follows refl (at_end c.in_ok-push.ensures.ok)

pub returns-clause-known : goal.returns-clause-known
returns-clause-known g c = record { verdict = c.in_ok-verdict.verdict; is = c.in_ok-push.ensures.ok; known = c.in_ok-verdict.ensures.known }
