use Rattle.std.proofs.Common.{◌∷◌, [], ◌++◌, take, refl, sym, ap, subst, ◌∙◌}
use Rattle.std.proofs.lemmas.List.{take_all, take_more}
use Rattle.posing.proofs.Following.{leads_none, loop_ends}
use Rattle.posing.proofs.Steps.{each_fails, each_next}
use Rattle.point_steps.proofs.Carrying.{each-at}
use Rattle.point_states.specs.Additions.{AddsStates, IsPointStop, TellsStop}
use Rattle.point_states.specs.AllStates.{with_point, with_points}
use Rattle.point_states.proofs.AddedStates.{back-stop, both-added, front-stop, nothing-added}
use Rattle.point_states.proofs.states.with_points.Goals as goal

pub loop-stop-init : goal.loop-stop-init
unfolding with_points
loop-stop-init g c =
    let owner = c.args.owner in
    record {
      leads = leads_none _ _ _ _;
      added = nothing-added owner.program.now (TellsStop owner.program.now owner.proc owner.begun.now) c.args.made;
    }

pub with_point-requires : goal.with_point-requires
with_point-requires g c =
    let points = c.args.points.now in
    record {
      formed = c.requires.formed;
      p = c.requires.p;
      is = c.requires.is;
      entry = c.requires.entry;
      each = (each-at (IsPointStop c.args.owner.program.now c.requires.p) points points c.loop-stop.stop-index c.stop-item.result c.requires.each refl c.loop-stop-test.true c.stop-item.is, tt);
    }

pub loop-stop-preserved : goal.loop-stop-preserved
loop-stop-preserved g c =
    let owner = c.args.owner in
    let points = c.args.points.now in
    let i = c.loop-stop.stop-index in
    let Tells = TellsStop owner.program.now owner.proc owner.begun.now in
    let one = take_more points i c.stop-item.result c.loop-stop-test.true ∙ ap (λ stop. take i points ++ stop ∷ []) (sym c.stop-item.is) in
    record {
      leads = each_next (with_point owner.program.now owner.proc owner.begun.now) _ _ c.loop-stop.invariant.leads c.loop-stop-test.true c.stop-item.is c.in_ok-all.ensures.follows;
      added =
          subst (λ stops. AddsStates owner.program.now Tells stops c.args.made c.in_ok-all.all) (sym one)
          (both-added owner.program.now Tells (front-stop owner.program.now owner.proc owner.begun.now) (back-stop owner.program.now owner.proc owner.begun.now) c.loop-stop.invariant.added c.in_ok-all.ensures.added);
    }

pub returns-in_err-all-clause-follows : goal.returns-in_err-all-clause-follows
returns-in_err-all-clause-follows g c =
    each_fails (with_point c.args.owner.program.now c.args.owner.proc c.args.owner.begun.now) _ _ c.loop-stop.invariant.leads c.loop-stop-test.true c.stop-item.is c.in_err-all.ensures.follows c.from_residual.ensures.1

pub returns-clause-follows : goal.returns-clause-follows
returns-clause-follows g c =
    loop_ends _ _ _ _ _ _ (with_point c.args.owner.program.now c.args.owner.proc c.args.owner.begun.now) _ c.args.points.now c.loop-stop.stop-index c.loop-stop.invariant.leads c.loop-stop-test.false

pub returns-clause-added : goal.returns-clause-added
returns-clause-added g c =
    let owner = c.args.owner in
    subst (λ stops. AddsStates owner.program.now (TellsStop owner.program.now owner.proc owner.begun.now) stops c.args.made c.loop-stop.all) (take_all c.loop-stop.stop-index c.args.points.now c.loop-stop-test.false) c.loop-stop.invariant.added
