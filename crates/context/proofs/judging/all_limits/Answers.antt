use Rattle.context.proofs.CaseVerdicts.{limits-all}
use Rattle.context.proofs.judging.all_limits.Goals as goal

pub returns : goal.returns
returns c = limits-all c.args.verdicts.now c.loop-verdict.verdict-index _ c.loop-verdict-test.false c.loop-verdict.invariant
