use Rattle.std.proofs.Common.{◌≡◌}
use Rattle.leaf_cases.specs.Guard.{columns_of}
use Rattle.point_rows.proofs.exits.columns.Given as goal

abbrev pub invariant-loop-number : goal.invariant-loop-number
invariant-loop-number l = l.made ≡ columns_of l.number
