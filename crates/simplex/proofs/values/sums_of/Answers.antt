use Rattle.std.proofs.Common.{◌≡◌, ◌++◌, ◌∷◌, [], sym, ap, ◌∙◌, rules, List, Ok}
use Rattle.farkas_check.specs.Ratios.{Fraction, ratio_sum}
use Rattle.simplex.specs.Exchange.{behind}
use Rattle.simplex.specs.Spots.{sums_of}
use Rattle.simplex.proofs.Behind.{behind-next}
use Rattle.simplex.proofs.values.sums_of.Goals as goal

pub loop-one-preserved : goal.loop-one-preserved
loop-one-preserved c =
    let one = c.in-Some.one.now in
    let other = c.in-Some-split_first.other.now in
    let ones = c.in-Some.more_left.now in
    let others = c.in-Some-split_first.more_right.now in
    let r : Fraction = c.in_ok-ratio_sum.field-0 in
    let more : c.push.new.self ≡ c.loop-one.made ++ r ∷ [] = search rules in
    let first : ratio_sum one other ≡ Ok r = search rules in
    let own : c.loop-one.left.now ≡ one ∷ ones = search rules in
    let second : c.loop-one.right.now ≡ other ∷ others = search rules in
    behind-next c.loop-one.made c.push.new.self r (ratio_sum one other) (sums_of ones others) more first
    ∙ sym (ap (λ (rs : List Fraction). behind c.loop-one.made (sums_of rs c.loop-one.right.now)) own ∙ ap (λ (rs : List Fraction). behind c.loop-one.made (sums_of (one ∷ ones) rs)) second)
    ∙ c.loop-one.invariant
