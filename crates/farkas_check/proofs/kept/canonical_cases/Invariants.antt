use Rattle.std.proofs.Common.{All, take}
use Rattle.farkas_check.specs.Kept.{IsCanonicalChange}
use Rattle.farkas_check.proofs.kept.canonical_cases.Given as goal

abbrev pub invariant-loop-case : goal.invariant-loop-case
invariant-loop-case l = All IsCanonicalChange (take l.case-index l.cases)
