use Rattle.std.proofs.Common.{◌++◌, ap, subst, ◌∙◌}
use Rattle.posing.specs.Logs.{HasNoted, loss_notes}
use Rattle.newton_rounds.specs.Pairs.{losses_in_base}
use Rattle.newton_rounds.proofs.bases.noted_base.Goals as goal

pub returns-clause-noted : goal.returns-clause-noted
returns-clause-noted c =
    let lost = c.as_slice.ensures ∙ c.in_ok-base.ensures.noted ∙ ap (λ l. l ++ losses_in_base c.args.member.now c.args.exit.now) c.new-lost.ensures in
    subst (HasNoted c.args.log.now c.add_losses.new.self) (ap loss_notes lost) c.in_ok-add_losses.ensures
