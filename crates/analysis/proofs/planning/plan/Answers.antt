use Rattle.std.proofs.Common.{◌≡◌, [], ◌∷◌, ◌+◌, ◌++◌, ◌∙◌, take, refl, ap, sym, subst}
use Rattle.std.specs.Prelude.{Some, slice_get}
use Rattle.std.proofs.lemmas.List.{take_more}
use Rattle.std.proofs.lemmas.Option.{slice_get_read}
use Rattle.flow_graph.specs.Groups.{AreGroups}
use Rattle.analysis.specs.Plan.{ArePlannedOf}
use Rattle.analysis.proofs.OnePlan.{groups-there, planned-next}
use Rattle.analysis.proofs.planning.plan.Goals as goal

pub group_plan-requires-clause-there : goal.group_plan-requires-clause-there
group_plan-requires-clause-there c =
    let groups = c.as_slice-group-items.result.now in
    let at : slice_get groups c.loop-group.group-index ≡ Some c.group-item.result = slice_get_read groups _ c.loop-group.group-index c.group-item.result refl c.loop-group-test.true c.group-item.is in
    groups-there c.args.program.now groups (subst (AreGroups c.args.program.now) (sym c.as_slice-group-items.ensures) c.in-Ok.ensures) c.loop-group.group-index c.group-item.result at

pub loop-group-preserved : goal.loop-group-preserved
loop-group-preserved c =
    let program = c.args.program.now in
    let groups = c.as_slice-group-items.result.now in
    let i = c.loop-group.group-index in
    let group = c.group-item.result in
    let planned = c.in_ok-group_plan.field-0 in
    subst (ArePlannedOf program (take (i + 1) groups)) (sym c.in_ok-push.ensures.ok)
    (subst (λ front. ArePlannedOf program front (c.loop-group.plan ++ planned ∷ [])) (sym (take_more groups i group c.loop-group-test.true ∙ ap (λ g. take i groups ++ g ∷ []) (sym c.group-item.is)))
    (planned-next program (take i groups) c.loop-group.plan group planned c.loop-group.invariant c.in_ok-group_plan.ensures))
