use Rattle.std.proofs.Common.{List, [], refl, sym, subst}
use Rattle.posing.specs.Follows.{Leads}
use Rattle.posing.specs.Posing.{each}
use Rattle.posing.proofs.Following.{leads_none, loop_ends}
use Rattle.posing.proofs.Steps.{each_fails, each_next}
use Rattle.point_steps.proofs.Carrying.{each-at}
use Rattle.point_rounds.specs.declared.round.StepFrom.{StepFrom}
use Rattle.point_rounds.specs.Closed.{AreStepsFrom, IsPointState}
use Rattle.point_rounds.specs.Rounds.{with_state}
use Rattle.point_rounds.proofs.StateSteps.{covers-all, covers-next, fits-next}
use Rattle.point_rounds.proofs.stepping.steps_by_known.Goals as goal

pub loop-state-init : goal.loop-state-init
loop-state-init g c =
    let step = with_state c.args.source.program.now c.args.source.known.now in
    let states = c.args.source.states.now in
    record {
      leads = subst (λ made. Leads g.O.Oracle.asking c.args.oracle.now c.args.oracle.now c.args.log.now c.args.log.now (each step [] states) (each step made states)) (sym c.new-made.ensures) (leads_none _ _ _ _);
      fits = subst (λ (made : List StepFrom). AreStepsFrom c.args.source.program.now made) (sym c.new-made.ensures) tt;
      covers = tt;
    }

pub with_state-requires-clause-state : goal.with_state-requires-clause-state
with_state-requires-clause-state g c =
    each-at (IsPointState c.args.source.program.now) c.args.source.states.now c.args.source.states.now c.loop-state.state-index c.state-item.result c.requires.states refl c.loop-state-test.true c.state-item.is

pub loop-state-preserved : goal.loop-state-preserved
loop-state-preserved g c =
    let program = c.args.source.program.now in
    let known = c.args.source.known.now in
    record {
      leads = each_next (with_state program known) _ _ c.loop-state.invariant.leads c.loop-state-test.true c.state-item.is c.in_ok-made.ensures.follows;
      fits = fits-next program known c.state-item.result c.loop-state.made c.in_ok-made.made c.in_ok-made.ensures.more c.loop-state.invariant.fits;
      covers = covers-next program known c.args.source.states.now c.loop-state.state-index c.state-item.result c.loop-state.made c.in_ok-made.made c.loop-state-test.true c.state-item.is c.in_ok-made.ensures.more c.loop-state.invariant.covers;
    }

pub returns-in_err-made-clause-follows : goal.returns-in_err-made-clause-follows
returns-in_err-made-clause-follows g c =
    each_fails (with_state c.args.source.program.now c.args.source.known.now) _ _ c.loop-state.invariant.leads c.loop-state-test.true c.state-item.is c.in_err-made.ensures.follows c.from_residual.ensures.1

pub returns-clause-follows : goal.returns-clause-follows
returns-clause-follows g c =
    loop_ends _ _ _ _ _ _ (with_state c.args.source.program.now c.args.source.known.now) _ c.args.source.states.now c.loop-state.state-index c.loop-state.invariant.leads c.loop-state-test.false

pub returns-clause-fits : goal.returns-clause-fits
returns-clause-fits g c = c.loop-state.invariant.fits

pub returns-clause-covers : goal.returns-clause-covers
returns-clause-covers g c =
    covers-all c.args.source.program.now c.args.source.known.now c.args.source.states.now c.loop-state.state-index c.loop-state.made c.loop-state-test.false c.loop-state.invariant.covers
