use Rattle.std.proofs.Common.{All, take}
use Rattle.farkas_check.specs.Kept.{ArePositive}
use Rattle.farkas_check.proofs.kept.positive_lists.Given as goal

abbrev pub invariant-loop-numbers : goal.invariant-loop-numbers
invariant-loop-numbers l = All ArePositive (take l.numbers-index l.free)
