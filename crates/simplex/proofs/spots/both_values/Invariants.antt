use Rattle.std.proofs.Common.{◌≡◌, ◌++◌, drop}
use Rattle.simplex.proofs.spots.both_values.Given as goal

abbrev pub invariant-loop-value : goal.invariant-loop-value
invariant-loop-value l = l.made ++ drop l.value-index l.others ≡ l.fn.first ++ l.others
