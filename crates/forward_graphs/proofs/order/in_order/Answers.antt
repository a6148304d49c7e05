use Rattle.std.specs.List.{concat}
use Rattle.std.proofs.Common.{subst, sym, ap, ◌∙◌}
use Rattle.forward_graphs.specs.declared.order.StepEnd.TheVariants.{Target}
use Rattle.forward_graphs.specs.Placing.{ArePlaced}
use Rattle.forward_graphs.proofs.Groups.{placed-all, placed-ordered}
use Rattle.forward_graphs.proofs.order.in_order.Goals as goal

pub groups-requires : goal.groups-requires
groups-requires c = subst (ArePlaced c.args.nodes c.args.steps.now) (sym (c.as_slice.ensures ∙ c.in_ok-numbers.ensures)) (placed-all c.args.nodes c.args.steps.now c.requires)

pub groups-requires-2 : goal.groups-requires-2
groups-requires-2 c =
    subst (ArePlaced c.args.nodes c.args.steps.now) (sym (c.as_slice-3.ensures ∙ c.in_ok-targets.ensures ∙ ap concat (c.as_slice-2.ensures ∙ c.in_ok-by_target.ensures)))
    (placed-ordered c.args.nodes c.args.steps.now Target c.as_slice.result.now
    (subst (ArePlaced c.args.nodes c.args.steps.now) (sym (c.as_slice.ensures ∙ c.in_ok-numbers.ensures)) (placed-all c.args.nodes c.args.steps.now c.requires)))
