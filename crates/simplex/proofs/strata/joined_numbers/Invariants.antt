use Rattle.std.proofs.Common.{◌≡◌, ◌++◌, drop}
use Rattle.simplex.proofs.strata.joined_numbers.Given as goal

abbrev pub invariant-loop-number : goal.invariant-loop-number
invariant-loop-number l = l.made ++ drop l.number-index l.others ≡ l.fn.first ++ l.others
