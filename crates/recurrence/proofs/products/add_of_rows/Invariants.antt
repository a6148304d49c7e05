use Rattle.std.proofs.Common.{◌≡◌, ◌++◌, drop}
use Rattle.std.specs.List.{flat_map}
use Rattle.std.specs.Map.{keys_of}
use Rattle.recurrence.specs.Products.{row_products}
use Rattle.recurrence.proofs.products.add_of_rows.Given as goal

abbrev pub invariant-loop-row : goal.invariant-loop-row
invariant-loop-row l = keys_of l.found ++ flat_map row_products (drop l.row-index l.rows) ≡ keys_of l.initial.found ++ flat_map row_products l.rows
