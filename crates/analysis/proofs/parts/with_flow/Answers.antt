use Rattle.std.proofs.Common.{refl}
use Rattle.posing.proofs.Steps.{at_end, value_first}
use Rattle.analysis.specs.Parts.{with_flow}
use Rattle.analysis.proofs.parts.with_flow.Goals as goal

pub returns-clause-follows : goal.returns-clause-follows
unfolding with_flow
returns-clause-follows g c = λ p is. value_first _ (c.in_ok-own.ensures.follows p is) refl (at_end c.in_ok-push.ensures.ok)
