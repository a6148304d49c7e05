use Rattle.std.proofs.Common.{◌≡◌}
use Rattle.leaf_cases.specs.Guard.{columns_of}
use Rattle.leaf_cases.proofs.guard.columns_below.Given as goal

abbrev pub invariant-loop-number : goal.invariant-loop-number
invariant-loop-number l = l.made ≡ columns_of l.number
