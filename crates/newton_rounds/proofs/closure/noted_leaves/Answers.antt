use Rattle.std.proofs.Common.{◌++◌, ap, subst, ◌∙◌}
use Rattle.std.specs.List.{flat_map}
use Rattle.posing.specs.Logs.{HasNoted, loss_notes}
use Rattle.newton_rounds.specs.Closure.{losses_in_group_leaf}
use Rattle.newton_rounds.specs.Groups.{stretches_in}
use Rattle.newton_rounds.proofs.closure.noted_leaves.Goals as goal

pub returns-clause-noted : goal.returns-clause-noted
returns-clause-noted c =
    let noted = flat_map (losses_in_group_leaf c.args.graph.members.now) (stretches_in c.args.graph) in
    let lost = c.as_slice.ensures ∙ c.in_ok-leaves.ensures.noted ∙ ap (λ l. l ++ noted) c.new-lost.ensures in
    subst (HasNoted c.args.log.now c.add_losses.new.self) (ap loss_notes lost) c.in_ok-add_losses.ensures
