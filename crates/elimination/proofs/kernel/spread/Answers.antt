use Rattle.std.proofs.Common.{◌≡◌, ◌++◌, ◌∷◌, [], List, sym, ap, ◌∙◌, arith, ℤ, to_z, of_z}
use Rattle.std.specs.Int.{w128}
use Rattle.farkas_check.specs.Calm.{at_chosen}
use Rattle.farkas_check.specs.Relations.{entry}
use Rattle.elimination.specs.Stages.{spread}
use Rattle.elimination.proofs.ChosenNumbers.{spread-more}
use Rattle.elimination.proofs.Magnitudes.{read}
use Rattle.elimination.proofs.kernel.spread.Goals as goal

pub loop-unknown-preserved : goal.loop-unknown-preserved
loop-unknown-preserved c =
    let own : to_z w128 (of_z w128 c.number_of.result) ≡ at_chosen c.args.chosen.now (entry c.args.numbers.now) c.loop-unknown.unknown = read c.number_of.result (omega (arith, c.number_of.ensures.small)) ∙ c.number_of.ensures.value in
    c.in_ok-push.ensures.ok ∙ ap (λ (zs : List ℤ). zs ++ to_z w128 (of_z w128 c.number_of.result) ∷ []) c.loop-unknown.invariant
    ∙ ap (λ (z : ℤ). spread c.args.chosen.now (entry c.args.numbers.now) c.loop-unknown.unknown ++ z ∷ []) own ∙ sym (spread-more c.args.chosen.now (entry c.args.numbers.now) c.loop-unknown.unknown)
