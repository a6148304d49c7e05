use Rattle.std.proofs.Common.{◌≡◌, sym, subst, rules}
use Rattle.std.specs.Prelude.{slice_index}
use Rattle.linear_terms.specs.Polynomial.{Terms, IsCanonical}
use Rattle.linear_terms.proofs.Numbering.{terms_numbered, renumbered_terms}
use Rattle.linear_terms.proofs.auxiliaries.renumbered_poly.Goals as goal

pub invariant_of-result : goal.invariant_of-result
invariant_of-result c =
    let same : c.as_slice.result.now ≡ c.args.a.now.terms = search rules in
    let canonical : IsCanonical c.as_slice.result.now = search (rules, c.a.invariant) in
    let made = terms_numbered (slice_index c.args.numbers.now) c.args.a.now.terms c.requires.order (subst IsCanonical same canonical) in
    subst IsCanonical (sym c.in_ok-terms.ensures) (subst (λ (ts : Terms). IsCanonical (renumbered_terms (slice_index c.args.numbers.now) ts)) (sym same) made)
