use Rattle.std.proofs.Common.{take}
use Rattle.farkas_check.specs.Kept.{ArePositive}
use Rattle.farkas_check.proofs.kept.positive_ratios.Given as goal

abbrev pub invariant-loop-number : goal.invariant-loop-number
invariant-loop-number l = ArePositive (take l.number-index l.numbers)
