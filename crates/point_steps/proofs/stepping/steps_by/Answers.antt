use Rattle.std.proofs.Common.{refl, sym, subst}
use Rattle.posing.specs.Follows.{Leads}
use Rattle.posing.specs.Posing.{each}
use Rattle.posing.proofs.Following.{leads_none, loop_ends}
use Rattle.posing.proofs.Steps.{each_fails, each_next}
use Rattle.point_steps.specs.Parts.{IsOut}
use Rattle.point_steps.specs.Steps.{steps_by, with_step}
use Rattle.point_steps.proofs.Carrying.{each-at}
use Rattle.point_steps.proofs.StepLaws.{covers-all, covers-next}
use Rattle.point_steps.proofs.stepping.steps_by.Goals as goal

pub loop-out-init : goal.loop-out-init
unfolding steps_by
loop-out-init g c =
    record {
      leads =
          subst (λ made. Leads g.O.Oracle.asking c.args.oracle.now c.args.oracle.now c.args.log.now c.args.log.now (steps_by c.args.point.columns c.args.point.places.now c.args.point.state.now c.args.outs.now)
          (each (with_step c.args.point.columns c.args.point.places.now c.args.point.state.now) made c.args.outs.now)) (sym c.new-made.ensures) (leads_none _ _ _ _);
      covers = tt;
    }

pub with_step-requires-clause-out : goal.with_step-requires-clause-out
with_step-requires-clause-out g c =
    each-at (IsOut c.args.point.columns c.args.point.places.now) c.args.outs.now c.args.outs.now c.loop-out.out-index c.out-item.result c.requires.outs refl c.loop-out-test.true c.out-item.is

pub loop-out-preserved : goal.loop-out-preserved
loop-out-preserved g c =
    record {
      leads = each_next (with_step c.args.point.columns c.args.point.places.now c.args.point.state.now) _ _ c.loop-out.invariant.leads c.loop-out-test.true c.out-item.is c.in_ok-made.ensures.follows;
      covers = covers-next c.args.point.columns c.args.point.places.now c.args.point.state.now c.args.outs.now c.loop-out.out-index c.out-item.result c.loop-out.made c.in_ok-made.made c.loop-out-test.true c.out-item.is c.in_ok-made.ensures.behind
          c.in_ok-made.ensures.covers c.loop-out.invariant.covers;
    }

pub returns-in_err-made-clause-follows : goal.returns-in_err-made-clause-follows
returns-in_err-made-clause-follows g c =
    each_fails (with_step c.args.point.columns c.args.point.places.now c.args.point.state.now) _ _ c.loop-out.invariant.leads c.loop-out-test.true c.out-item.is c.in_err-made.ensures.follows c.from_residual.ensures.1

pub returns-clause-follows : goal.returns-clause-follows
returns-clause-follows g c = loop_ends _ _ _ _ _ _ (with_step c.args.point.columns c.args.point.places.now c.args.point.state.now) _ c.args.outs.now c.loop-out.out-index c.loop-out.invariant.leads c.loop-out-test.false

pub returns-clause-covers : goal.returns-clause-covers
returns-clause-covers g c = covers-all c.args.point.columns c.args.point.places.now c.args.point.state.now c.args.outs.now c.loop-out.out-index c.loop-out.made c.loop-out-test.false c.loop-out.invariant.covers
