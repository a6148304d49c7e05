use Rattle.std.proofs.Common.{refl, sym, subst}
use Rattle.posing.specs.Follows.{Leads}
use Rattle.posing.specs.Posing.{each}
use Rattle.posing.proofs.Following.{leads_none, loop_ends}
use Rattle.posing.proofs.Steps.{each_fails, each_next}
use Rattle.point_steps.proofs.Carrying.{each-at}
use Rattle.point_rounds.specs.Closed.{IsStepOf}
use Rattle.point_rounds.specs.Rounds.{fallen_rows, with_step}
use Rattle.point_rounds.proofs.falling.fallen_rows.Goals as goal

pub loop-from-init : goal.loop-from-init
loop-from-init g c =
    subst (λ fell. Leads g.O.Oracle.asking c.args.oracle.now c.args.oracle.now c.args.log.now c.args.log.now (fallen_rows c.args.source.program.now c.args.table.now c.args.steps.now) (each (with_step c.args.source.program.now c.args.table.now) fell c.args.steps.now))
    (sym c.new-fell.ensures) (leads_none _ _ _ _)

pub with_step-requires-clause-from : goal.with_step-requires-clause-from
with_step-requires-clause-from g c =
    each-at (IsStepOf c.args.source.program.now) c.args.steps.now c.args.steps.now c.loop-from.from-index c.from-item.result c.requires.steps refl c.loop-from-test.true c.from-item.is

pub loop-from-preserved : goal.loop-from-preserved
loop-from-preserved g c = each_next (with_step c.args.source.program.now c.args.table.now) _ _ c.loop-from.invariant c.loop-from-test.true c.from-item.is c.in_ok-fell.ensures

pub returns-in_err-fell : goal.returns-in_err-fell
returns-in_err-fell g c =
    each_fails (with_step c.args.source.program.now c.args.table.now) _ _ c.loop-from.invariant c.loop-from-test.true c.from-item.is c.in_err-fell.ensures c.from_residual.ensures.1

pub returns : goal.returns
returns g c = loop_ends _ _ _ _ _ _ (with_step c.args.source.program.now c.args.table.now) _ c.args.steps.now c.loop-from.from-index c.loop-from.invariant c.loop-from-test.false
