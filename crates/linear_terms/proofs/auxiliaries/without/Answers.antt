use Rattle.std.proofs.Common.{subst, sym, rules}
use Rattle.std.specs.Prelude.{not}
use Rattle.linear_terms.specs.Auxiliaries.{has_auxiliary}
use Rattle.linear_terms.specs.Polynomial.{IsCanonical}
use Rattle.linear_terms.proofs.Canonical.{IsCanonical-filter}
use Rattle.linear_terms.proofs.auxiliaries.without.Goals as goal

pub invariant_of-result : goal.invariant_of-result
invariant_of-result c =
    let kept = IsCanonical-filter (λ t. not (has_auxiliary c.args.aux t.0)) c.as_slice.result.now (search (rules, c.a.invariant)) in
    subst IsCanonical (sym c.in_ok-terms.ensures) kept
