use Rattle.std.proofs.Common.{take}
use Rattle.polyhedra.specs.Laws.{HaveCanonicalRows}
use Rattle.forward_graphs.proofs.walking.see_cases.Given as goal

-- those that were gone over
abbrev pub invariant-loop-case : goal.invariant-loop-case
invariant-loop-case l = HaveCanonicalRows (take l.case-index l.cases)
