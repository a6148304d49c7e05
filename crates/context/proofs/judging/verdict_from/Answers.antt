use Rattle.context.proofs.CaseVerdicts.{one-behind}
use Rattle.context.proofs.judging.verdict_from.Goals as goal

pub loop-verdict-preserved : goal.loop-verdict-preserved
loop-verdict-preserved c = one-behind c.loop-verdict.yielded c.loop-verdict.found c.in-Some.verdict _ c.loop-verdict.invariant c.stronger-found.ensures
