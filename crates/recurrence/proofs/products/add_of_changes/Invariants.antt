use Rattle.std.proofs.Common.{◌≡◌, ◌++◌, drop}
use Rattle.std.specs.List.{flat_map}
use Rattle.std.specs.Map.{keys_of}
use Rattle.recurrence.specs.Products.{change_products}
use Rattle.recurrence.proofs.products.add_of_changes.Given as goal

abbrev pub invariant-loop-change : goal.invariant-loop-change
invariant-loop-change l = keys_of l.found ++ flat_map change_products (drop l.change-index l.changes) ≡ keys_of l.initial.found ++ flat_map change_products l.changes
