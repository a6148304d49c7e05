use Rattle.std.proofs.Common.{◌≡◌, ◌++◌, drop}
use Rattle.std.specs.List.{flat_map}
use Rattle.std.specs.Map.{keys_of}
use Rattle.recurrence.specs.Products.{case_products}
use Rattle.recurrence.proofs.products.products_in.Given as goal

abbrev pub invariant-loop-case : goal.invariant-loop-case
invariant-loop-case l = keys_of l.found ++ flat_map case_products (drop l.case-index l.cases) ≡ flat_map case_products l.cases
