use Rattle.std.proofs.Common.{◌≡◌, ◌++◌, ◌∷◌, ◌+◌, [], drop, sym, ap, ◌∙◌, rules, Ok}
use Rattle.farkas_check.specs.Points.{ratio_at, ratio_value}
use Rattle.farkas_check.specs.Ratios.{Fraction}
use Rattle.simplex.specs.Exchange.{behind}
use Rattle.simplex.specs.Spots.{values_of}
use Rattle.simplex.proofs.Behind.{behind-next, at_index}
use Rattle.simplex.proofs.spots.term_values.Goals as goal

pub loop-term-preserved : goal.loop-term-preserved
loop-term-preserved c =
    let value = ratio_value (ratio_at c.args.columns.now c.args.point.now) in
    let terms = c.args.terms.now in
    let i = c.loop-term.term-index in
    let term = c.term-item.result in
    let r : Fraction = c.in_ok-value_at.field-0 in
    let more : c.push.new.self ≡ c.loop-term.made ++ r ∷ [] = search rules in
    let first : value term ≡ Ok r = search rules in
    behind-next c.loop-term.made c.push.new.self r (value term) (values_of value (drop (i + 1) terms)) more first
    ∙ ap (λ ps. behind c.loop-term.made (values_of value ps)) (sym (at_index terms i term c.loop-term-test.true c.term-item.is))
    ∙ c.loop-term.invariant
