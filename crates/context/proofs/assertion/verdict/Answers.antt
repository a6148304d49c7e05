use Rattle.std.proofs.Common.{refl}
use Rattle.posing.proofs.Following.{stops}
use Rattle.context.proofs.assertion.verdict.Goals as goal

pub returns-in_err-graph-clause-follows : goal.returns-in_err-graph-clause-follows
returns-in_err-graph-clause-follows g c = λ p at stop is is_at is_stop. stops _ _ _ _ _ _ refl c.from_residual.ensures.1
