use Rattle.std.proofs.Common.{◌≡◌, ◌++◌, drop}
use Rattle.row_products.specs.Products.{factors}
use Rattle.row_products.proofs.factors.factors.Given as goal

abbrev pub invariant-loop-row : goal.invariant-loop-row
invariant-loop-row l = l.made ++ factors l.monos (drop l.row-index l.rows) ≡ factors l.monos l.rows
