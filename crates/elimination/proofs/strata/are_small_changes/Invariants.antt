use Rattle.std.proofs.Common.{take}
use Rattle.std.specs.Prelude.{All}
use Rattle.elimination.specs.Narrow.{IsSmallChange}
use Rattle.elimination.proofs.strata.are_small_changes.Given as goal

abbrev pub invariant-loop-case : goal.invariant-loop-case
invariant-loop-case l = All IsSmallChange (take l.case-index l.cases)
