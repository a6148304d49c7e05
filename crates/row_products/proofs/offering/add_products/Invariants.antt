use Rattle.std.proofs.Common.{◌≡◌, length}
use Rattle.row_products.specs.Limits.{most_products}
use Rattle.row_products.specs.Offers.{with_offers}
use Rattle.row_products.specs.Products.{product_rows}
use Rattle.row_products.proofs.offering.add_products.Given as goal

abbrev pub invariant-loop-first : goal.invariant-loop-first
invariant-loop-first l =
    with_offers most_products l.rows l.made (product_rows l.monos l.left)
    ≡ with_offers most_products l.rows l.initial.made (product_rows l.monos l.factors)

abbrev pub decreases-loop-first : goal.decreases-loop-first
decreases-loop-first l = length l.left
