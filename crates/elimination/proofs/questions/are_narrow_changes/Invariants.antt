use Rattle.std.proofs.Common.{take}
use Rattle.std.specs.Prelude.{All}
use Rattle.elimination.specs.Narrow.{IsNarrowChange}
use Rattle.elimination.proofs.questions.are_narrow_changes.Given as goal

abbrev pub invariant-loop-case : goal.invariant-loop-case
invariant-loop-case l = All IsNarrowChange (take l.case-index l.cases)
