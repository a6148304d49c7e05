use Rattle.std.proofs.Common.{take}
use Rattle.std.specs.Prelude.{All}
use Rattle.farkas_check.specs.Ratios.{IsLowest}
use Rattle.elimination.proofs.null_vectors.lowest_ratios.Given as goal

abbrev pub invariant-loop-value : goal.invariant-loop-value
invariant-loop-value l = All IsLowest (take l.value-index l.values)
