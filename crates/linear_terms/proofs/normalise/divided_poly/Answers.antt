use Rattle.std.proofs.Common.{◌≡◌, sym, ap, subst, ◌∙◌, rules}
use Rattle.std.specs.Map.{values_of}
use Rattle.whole_numbers.specs.Divisors.{gcd_of_all}
use Rattle.linear_terms.specs.Polynomial.{Terms, IsCanonical}
use Rattle.linear_terms.proofs.Normals.{IsCanonical-divided}
use Rattle.linear_terms.proofs.normalise.divided_poly.Goals as goal

pub invariant_of-result : goal.invariant_of-result
invariant_of-result c =
    let same : c.as_slice.result.now ≡ c.args.poly.now.terms = search rules in
    let greatest = c.requires.divisor ∙ ap (λ (ts : Terms). gcd_of_all (values_of ts)) (sym same) in
    subst IsCanonical (sym c.in_ok-terms.ensures)
    (IsCanonical-divided c.args.divisor c.as_slice.result.now greatest (rw c.as_slice.ensures c.poly.invariant))
