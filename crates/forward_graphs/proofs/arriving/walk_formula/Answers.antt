use Rattle.std.proofs.Common.{Some, ap, refl, sym}
use Rattle.posing.specs.Posing.{Done}
use Rattle.posing.proofs.Steps.{at_end, in_other_words, value_first}
use Rattle.forward_graphs.specs.Evaluation.{walk_formula}
use Rattle.forward_graphs.proofs.arriving.walk_formula.Goals as goal

pub returns-in_ok-formula-in-Item : goal.returns-in_ok-formula-in-Item
returns-in_ok-formula-in-Item g c =
    in_other_words (ap (λ cell. walk_formula cell c.args.arrival.step.now c.args.arrival.ends.from.now c.args.arrival.ends.to.now) (sym c.in-Item.is))
    (value_first (λ h. Done (Some h)) c.in_ok-formula-in-Item.ensures refl (at_end refl))
