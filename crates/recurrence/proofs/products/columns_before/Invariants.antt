use Rattle.std.proofs.Common.{◌≡◌, ◌++◌, drop}
use Rattle.std.specs.List.{filter}
use Rattle.recurrence.specs.Products.{is_before}
use Rattle.recurrence.proofs.products.columns_before.Given as goal

abbrev pub invariant-loop-col : goal.invariant-loop-col
invariant-loop-col l = l.left ++ filter is_before (drop l.col-index l.columns) ≡ filter is_before l.columns
