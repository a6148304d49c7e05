use Rattle.std.proofs.Common.{◌≡◌, drop, map}
use Rattle.row_products.specs.Limits.{most_products}
use Rattle.row_products.specs.Offers.{with_offers}
use Rattle.row_products.specs.Products.{product_row}
use Rattle.row_products.proofs.offering.add_products_with.Given as goal

abbrev pub invariant-loop-other : goal.invariant-loop-other
invariant-loop-other l =
    with_offers most_products l.rows l.made (map (product_row l.monos l.first) (drop l.other-index l.others))
    ≡ with_offers most_products l.rows l.initial.made (map (product_row l.monos l.first) l.others)
