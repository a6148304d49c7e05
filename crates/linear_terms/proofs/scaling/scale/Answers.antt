use Rattle.std.proofs.Common.{◌≡◌, Ok, rules, to_z, of_z}
use Rattle.std.specs.Int.{w128}
use Rattle.std.proofs.lemmas.Int.{to_z-of_z}
use Rattle.linear_terms.specs.Polynomial.{Polynomial}
use Rattle.linear_terms.specs.Operations.{multiple_of}
use Rattle.linear_terms.proofs.Canonical.{IsCanonical-times_each}
use Rattle.linear_terms.proofs.Values.{multiple_of-value}
use Rattle.linear_terms.proofs.scaling.scale.Goals as goal

pub invariant_of-result : goal.invariant_of-result
invariant_of-result c =
    IsCanonical-times_each c.args.by c.as_slice.result.now c.in_ok-terms.terms (rw c.as_slice.ensures c.a.invariant) (rw (to_z-of_z w128 c.args.by c.ranges.by) at c.in_ok-terms.ensures.exact)

pub returns-clause-value : goal.returns-clause-value
returns-clause-value c at =
    let p : Polynomial = record { terms = c.in_ok-terms.terms; rest = to_z w128 (of_z w128 c.in_ok-rest.rest) } in
    let exact : multiple_of c.args.a.now c.args.by ≡ Ok p = search rules in
    multiple_of-value at c.args.a.now c.args.by p exact
