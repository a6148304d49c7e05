use Rattle.std.proofs.Common.{◌≡◌, Ok, ap, sym, ◌∙◌, arith}
use Rattle.linear_terms.specs.Polynomial.{Polynomial}
use Rattle.linear_terms.specs.Operations.{product_of_polys, parts}
use Rattle.linear_terms.proofs.Steps.{add_rows-last}
use Rattle.linear_terms.proofs.Values.{product_of_polys-value}
use Rattle.linear_terms.proofs.multiply.mul.Goals as goal

pub returns-clause-value : goal.returns-clause-value
returns-clause-value c at =
    let same_rest : c.a.inside.rest ≡ c.args.a.now.rest = ap (λ (p : Polynomial). p.rest) c.a.view_is in
    let last = add_rows-last c.a.inside.rest c.as_slice-mono-items.result.now (parts c.args.b.now) c.loop-mono.mono-index c.loop-mono.total c.add_row-2.new.total (omega arith) c.in_ok-add_row-2.ensures.ok in
    let exact : product_of_polys c.args.a.now c.args.b.now ≡ Ok c.in_ok-into_poly.field-0 = sym c.loop-mono.invariant ∙ (rw same_rest at last) ∙ ap (λ p. Ok p) (sym c.in_ok-into_poly.ensures) in
    product_of_polys-value at c.args.a.now c.args.b.now c.in_ok-into_poly.field-0 exact
