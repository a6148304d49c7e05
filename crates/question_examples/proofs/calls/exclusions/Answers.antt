use Rattle.std.proofs.Common.{subst, sym}
use Rattle.posing.specs.Follows.{Leads}
use Rattle.posing.specs.Posing.{each}
use Rattle.posing.proofs.Following.{leads_none}
use Rattle.posing.proofs.Steps.{each_next, each_fails}
use Rattle.question_examples.specs.Calls.{exclusions, with_exclusion}
use Rattle.question_examples.proofs.calls.exclusions.Goals as goal

pub loop-rows-init : goal.loop-rows-init
loop-rows-init g c =
    subst (λ made. Leads g.O.Oracle.asking c.args.oracle.now c.args.oracle.now c.args.log.now c.args.log.now (exclusions c.args.lists.now) (each with_exclusion made c.args.lists.now))
    (sym c.new-made.ensures) (leads_none _ _ _ _)

pub returns-in_err-made : goal.returns-in_err-made
returns-in_err-made g c = each_fails with_exclusion _ _ c.loop-rows.invariant c.loop-rows-test.true c.rows-item.is c.in_err-made.ensures c.from_residual.ensures.1

pub loop-rows-preserved : goal.loop-rows-preserved
loop-rows-preserved g c = each_next with_exclusion _ _ c.loop-rows.invariant c.loop-rows-test.true c.rows-item.is c.in_ok-made.ensures
