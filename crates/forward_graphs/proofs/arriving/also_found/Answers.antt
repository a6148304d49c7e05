use Rattle.std.proofs.Common.{Some, refl, sym}
use Rattle.posing.specs.Posing.{Done}
use Rattle.posing.proofs.Steps.{at_end, in_other_words, value_first}
use Rattle.forward_graphs.specs.Evaluation.{also_found}
use Rattle.forward_graphs.proofs.arriving.also_found.Goals as goal

pub returns-in_ok-formula-in-Some-Some : goal.returns-in_ok-formula-in-Some-Some
returns-in_ok-formula-in-Some-Some g c =
    in_other_words (λ i. also_found (sym c.in-Some-Some.is-0 i) (sym c.in-Some-Some.is-1 i) c.args.ends.from.now c.args.ends.to.now)
    (value_first (λ k. Done (Some k)) c.in_ok-formula-in-Some-Some.ensures refl (at_end refl))
