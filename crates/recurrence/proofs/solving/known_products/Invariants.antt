use Rattle.std.proofs.Common.{◌≡◌, ◌++◌, drop}
use Rattle.recurrence.specs.Products.{known_products}
use Rattle.recurrence.proofs.solving.known_products.Given as goal

abbrev pub invariant-loop-mono : goal.invariant-loop-mono
invariant-loop-mono l = l.made ++ known_products l.known (drop l.mono-index l.products) ≡ known_products l.known l.products
