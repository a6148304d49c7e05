use Rattle.std.proofs.Common.{sym, subst}
use Rattle.std.specs.Int.{w128}
use Rattle.std.proofs.lemmas.Int.{to_z-of_z}
use Rattle.items.specs.Gives.{Gives}
use Rattle.linear_terms.specs.TermError.{cause}
use Rattle.linear_terms.specs.declared.col.Col.TheVariants.{At}
use Rattle.linear_terms.specs.Polynomial.{Polynomial}
use Rattle.linear_terms.specs.Replacement.{put_in}
use Rattle.linear_terms.proofs.Steps.{replaced-more}
use Rattle.linear_terms.proofs.substitute.substituted_monomial.Goals as goal

pub returns : goal.returns
returns c =
    let f = put_in c.args.at.now c.args.aux.now in
    let same = replaced-more f c.args.columns.now c.args.number (At 0) c.put_in-first.result.now c.in_ok-product.product c.requires.some c.put_in-first.ensures c.in_ok-product.ensures in
    subst (λ stated. Gives cause (λ (p : Polynomial). p) c.scale-2.result stated) (sym same)
    (rw (to_z-of_z w128 c.args.number c.ranges.number) at c.scale-2.ensures.exact)
