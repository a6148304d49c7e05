use Rattle.posing.proofs.Following.{leads_none}
use Rattle.posing.proofs.Steps.{each_next, each_fails}
use Rattle.recurrence.specs.Words.{by_term}
use Rattle.recurrence.proofs.progressions.with_terms.Goals as goal

pub loop-term-init : goal.loop-term-init
loop-term-init g c = leads_none _ _ _ _

pub returns-in_err-made : goal.returns-in_err-made
returns-in_err-made g c = each_fails (by_term c.args.turns c.args.change) _ _ c.loop-term.invariant c.loop-term-test.true c.term-item.is c.in_err-made.ensures c.from_residual.ensures.1

pub loop-term-preserved : goal.loop-term-preserved
loop-term-preserved g c = each_next (by_term c.args.turns c.args.change) _ _ c.loop-term.invariant c.loop-term-test.true c.term-item.is c.in_ok-made.ensures
