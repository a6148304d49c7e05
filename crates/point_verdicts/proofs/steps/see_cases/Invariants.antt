use Rattle.std.proofs.Common.{take}
use Rattle.polyhedra.specs.Laws.{HaveCanonicalRows}
use Rattle.point_verdicts.proofs.steps.see_cases.Given as goal

-- those that were gone over
abbrev pub invariant-loop-case : goal.invariant-loop-case
invariant-loop-case l = HaveCanonicalRows (take l.case-index l.cases)
