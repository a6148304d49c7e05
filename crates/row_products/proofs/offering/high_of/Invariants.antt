use Rattle.std.proofs.Common.{◌≡◌, ◌++◌, drop}
use Rattle.std.specs.List.{filter}
use Rattle.row_products.specs.Products.{is_high}
use Rattle.row_products.proofs.offering.high_of.Given as goal

abbrev pub invariant-loop-mono : goal.invariant-loop-mono
invariant-loop-mono l = l.made ++ filter is_high (drop l.mono-index l.monos) ≡ filter is_high l.monos
