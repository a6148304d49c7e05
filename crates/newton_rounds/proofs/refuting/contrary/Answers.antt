use Rattle.std.proofs.Common.{◌++◌, ◌∙◌, List, refl, sym, subst}
use Rattle.std.specs.Prelude.{All}
use Rattle.items.specs.Gives.{FailsBy}
use Rattle.linear_terms.specs.Operations.{substituted_polynomial}
use Rattle.linear_terms.specs.Polynomial.{Polynomial}
use Rattle.linear_terms.specs.Replacement.{HasPoly, put_in}
use Rattle.linear_terms.specs.TermError.{cause}
use Rattle.newton_rounds.proofs.Opposite.{one-ok, opposite-has}
use Rattle.newton_rounds.proofs.RowRefutations.{contrary-fails, contrary-made}
use Rattle.newton_rounds.proofs.refuting.contrary.Goals as goal

pub subst-requires : goal.subst-requires
subst-requires c =
    let pair = c.as_slice-2.ensures ∙ c.in_ok-add_copies.ensures ∙ (λ i. sym (one-ok refl c.in_ok-pair.ensures) i ++ c.as_slice.ensures i) in
    let own = c.as_slice-3.ensures ∙ sym (one-ok refl c.in_ok-own.ensures) in
    subst (λ (both : List Polynomial × List Polynomial). All (λ t. All (HasPoly both.0 both.1) t.0) c.in_ok-opposite.opposite.poly.terms) (λ i. (sym pair i, sym own i))
    (opposite-has c.args.from c.args.case.now c.args.row.now c.requires c.in_ok-opposite.opposite c.in_ok-opposite.ensures.exact)

pub returns-in_err-poly : goal.returns-in_err-poly
returns-in_err-poly c =
    let pair = c.as_slice-2.ensures ∙ c.in_ok-add_copies.ensures ∙ (λ i. sym (one-ok refl c.in_ok-pair.ensures) i ++ c.as_slice.ensures i) in
    let own = c.as_slice-3.ensures ∙ sym (one-ok refl c.in_ok-own.ensures) in
    contrary-fails c.args.from c.args.case.now c.args.row.now c.in_ok-opposite.opposite c.in_ok-opposite.ensures.exact c.from_residual-in_err-poly.result c.in_err-poly.field-0.0
    (subst (λ (both : List Polynomial × List Polynomial). FailsBy (cause c.in_err-poly.field-0.0) (substituted_polynomial (put_in both.0 both.1) c.in_ok-opposite.opposite.poly)) (λ i. (pair i, own i)) c.in_err-poly.ensures.exact)
    c.from_residual-in_err-poly.ensures.1

pub returns : goal.returns
returns c =
    let pair = c.as_slice-2.ensures ∙ c.in_ok-add_copies.ensures ∙ (λ i. sym (one-ok refl c.in_ok-pair.ensures) i ++ c.as_slice.ensures i) in
    let own = c.as_slice-3.ensures ∙ sym (one-ok refl c.in_ok-own.ensures) in
    contrary-made c.args.from c.args.case.now c.args.row.now c.in_ok-opposite.opposite c.in_ok-opposite.ensures.exact c.in_ok-poly.poly
    ((λ i. substituted_polynomial (put_in (sym pair i) (sym own i)) c.in_ok-opposite.opposite.poly) ∙ c.in_ok-poly.ensures.exact)
