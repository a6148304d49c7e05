use Rattle.std.proofs.Common.{ap, refl, subst, ◌∙◌}
use Rattle.items.specs.Gives.{Gives}
use Rattle.linear_terms.specs.TermError.{cause}
use Rattle.linear_terms.specs.Polynomial.{Polynomial}
use Rattle.linear_terms.specs.Operations.{sum_of_polys}
use Rattle.linear_terms.proofs.Merge.{sum_of_polys-no_terms}
use Rattle.linear_terms.proofs.substitute.with_poly.Goals as goal

pub returns-then-is_empty : goal.returns-then-is_empty
returns-then-is_empty c =
    let inside : Polynomial = record { terms = c.total.inside.terms; rest = c.total.inside.rest } in
    let same = sum_of_polys-no_terms inside c.args.more (c.if-is_empty.ensures.0 refl) ∙ ap (λ p. sum_of_polys p c.args.more) c.total.view_is in
    subst (λ stated. Gives cause (λ (p : Polynomial). p) c.sum_with_constant.result stated) same c.sum_with_constant.ensures
