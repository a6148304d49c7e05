use Rattle.std.proofs.Common.{◌≡◌, Ok, rules, to_z, of_z}
use Rattle.std.specs.Int.{w128}
use Rattle.linear_terms.specs.Polynomial.{Polynomial}
use Rattle.linear_terms.specs.Operations.{sum_of_polys}
use Rattle.linear_terms.proofs.Canonical.{IsCanonical-put_all}
use Rattle.linear_terms.proofs.Values.{sum_of_polys-value}
use Rattle.linear_terms.proofs.sums.add.Goals as goal

pub invariant_of-result : goal.invariant_of-result
invariant_of-result c =
    IsCanonical-put_all c.as_slice-2.result.now c.as_slice.result.now c.in_ok-terms.terms (rw c.as_slice.ensures c.a.invariant) c.in_ok-terms.ensures.exact

pub returns-clause-value : goal.returns-clause-value
returns-clause-value c at =
    let p : Polynomial = record { terms = c.in_ok-terms.terms; rest = to_z w128 (of_z w128 c.in_ok-rest.rest) } in
    let exact : sum_of_polys c.args.a.now c.args.b.now ≡ Ok p = search rules in
    sum_of_polys-value at c.args.a.now c.args.b.now p exact
