use Rattle.std.proofs.Common.{subst, rules}
use Rattle.linear_terms.specs.Polynomial.{Polynomial, IsCanonical}
use Rattle.linear_terms.proofs.Merge.{sum_of_polys-constant}
use Rattle.linear_terms.proofs.substitute.sum_with_constant.Goals as goal

pub returns-in_err-rest : goal.returns-in_err-rest
returns-in_err-rest c =
    let canonical : IsCanonical c.args.more.terms = subst (λ (p : Polynomial). IsCanonical p.terms) c.more.view_is c.more.invariant in
    rw (sum_of_polys-constant c.args.constant.now c.args.more canonical) (search rules)

pub returns : goal.returns
returns c =
    let canonical : IsCanonical c.args.more.terms = subst (λ (p : Polynomial). IsCanonical p.terms) c.more.view_is c.more.invariant in
    rw (sum_of_polys-constant c.args.constant.now c.args.more canonical) (search rules)
