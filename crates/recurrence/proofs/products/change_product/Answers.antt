use Rattle.std.proofs.Common.{◌≤◌, List, length, arith, subst, sym, ◌∙◌}
use Rattle.linear_terms.specs.declared.col.Col.{Col}
use Rattle.polyhedra.proofs.Coverage.{filter-short}
use Rattle.recurrence.specs.Products.{is_before}
use Rattle.recurrence.proofs.products.change_product.Goals as goal

pub product_of-requires : goal.product_of-requires
product_of-requires c =
    let short = filter-short is_before c.columns-columns.result.now in
    subst (λ (xs : List Col). length xs ≤ 4) (sym (c.as_slice.ensures ∙ c.in_ok-left.ensures)) (omega (arith, short, c.columns-columns.ensures.few))
