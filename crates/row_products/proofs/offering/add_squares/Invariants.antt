use Rattle.std.proofs.Common.{◌≡◌, drop}
use Rattle.std.specs.List.{flat_map}
use Rattle.row_products.specs.Limits.{most_products}
use Rattle.row_products.specs.Offers.{with_offers}
use Rattle.row_products.specs.Products.{square_rows}
use Rattle.row_products.proofs.offering.add_squares.Given as goal

abbrev pub invariant-loop-mono : goal.invariant-loop-mono
invariant-loop-mono l =
    with_offers most_products l.rows l.made (flat_map square_rows (drop l.mono-index l.monos))
    ≡ with_offers most_products l.rows l.initial.made (flat_map square_rows l.monos)
