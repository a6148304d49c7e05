use Rattle.std.proofs.Common.{take}
use Rattle.polyhedra.specs.Laws.{HaveCanonicalRows}
use Rattle.checked_tree.proofs.table.see_cases.Given as goal

-- those that were gone over
abbrev pub invariant-loop-case : goal.invariant-loop-case
invariant-loop-case l = HaveCanonicalRows (take l.case-index l.cases)
