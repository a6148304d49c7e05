use Rattle.std.proofs.Common.{◌≡◌, ◌+◌, drop, sym, ap, ◌∙◌, arith, rules}
use Rattle.std.specs.Prelude.{unsigned_abs}
use Rattle.std.specs.Map.{values_of}
use Rattle.whole_numbers.specs.Divisors.{gcd_of, gcd_of_all}
use Rattle.linear_terms.proofs.Normals.{gcd_of_all-next, gcd_of_all-end}
use Rattle.linear_terms.proofs.normalise.greatest_divisor.Goals as goal

pub loop-number-preserved : goal.loop-number-preserved
loop-number-preserved c =
    let made : c.gcd-divisor.result ≡ gcd_of c.loop-number.divisor (unsigned_abs c.loop-number-item.result.1) = search rules in
    ap (λ n. gcd_of n (gcd_of_all (values_of (drop (c.loop-number.number-index + 1) c.args.terms.now)))) made
    ∙ gcd_of_all-next c.loop-number.divisor c.args.terms.now c.loop-number.number-index c.loop-number-item.result (omega arith) c.loop-number-item.is
    ∙ c.loop-number.invariant

pub returns : goal.returns
returns c = sym (gcd_of_all-end c.loop-number.divisor c.args.terms.now c.loop-number.number-index (omega arith)) ∙ c.loop-number.invariant
