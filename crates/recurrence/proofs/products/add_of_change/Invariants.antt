use Rattle.std.proofs.Common.{◌≡◌, ◌++◌, drop}
use Rattle.std.specs.List.{filter_map}
use Rattle.std.specs.Map.{keys_of}
use Rattle.recurrence.specs.Products.{change_product}
use Rattle.recurrence.proofs.products.add_of_change.Given as goal

abbrev pub invariant-loop-mono : goal.invariant-loop-mono
invariant-loop-mono l =
    keys_of l.found ++ filter_map (λ t. change_product t.0) (drop l.mono-index l.terms) ≡ keys_of l.initial.found ++ filter_map (λ t. change_product t.0) l.terms
