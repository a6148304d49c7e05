use Rattle.std.proofs.Common.{◌≡◌, drop}
use Rattle.std.specs.Map.{values_of}
use Rattle.whole_numbers.specs.Divisors.{gcd_of, gcd_of_all}
use Rattle.linear_terms.proofs.normalise.greatest_divisor.Given as goal

abbrev pub invariant-loop-number : goal.invariant-loop-number
invariant-loop-number l =
    gcd_of l.divisor (gcd_of_all (values_of (drop l.number-index l.terms))) ≡ gcd_of_all (values_of l.terms)
