use Rattle.std.proofs.Common.{◌≡◌, ◌++◌, ◌∷◌, ◌+◌, [], drop, sym, ap, ◌∙◌, rules, Ok, ℤ}
use Rattle.std.specs.Prelude.{int_div}
use Rattle.whole_numbers.specs.Fits.{product_of}
use Rattle.simplex.specs.Exchange.{behind}
use Rattle.simplex.specs.Spots.{numerators_over}
use Rattle.simplex.proofs.Behind.{behind-next, at_index}
use Rattle.simplex.proofs.values.numerators_over.Goals as goal

pub loop-value-preserved : goal.loop-value-preserved
loop-value-preserved c =
    let common = c.args.common.now in
    let values = c.args.values.now in
    let i = c.loop-value.value-index in
    let value = c.value-item.result in
    let z : ℤ = c.in_ok-numerator_over.field-0 in
    let more : c.push.new.self ≡ c.loop-value.made ++ z ∷ [] = search rules in
    let first : product_of value.num (int_div common value.den) ≡ Ok z = search rules in
    behind-next c.loop-value.made c.push.new.self z (product_of value.num (int_div common value.den)) (numerators_over common (drop (i + 1) values)) more first
    ∙ ap (λ rs. behind c.loop-value.made (numerators_over common rs)) (sym (at_index values i value c.loop-value-test.true c.value-item.is))
    ∙ c.loop-value.invariant
