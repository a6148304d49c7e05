use Rattle.std.proofs.Common.{take}
use Rattle.std.specs.Prelude.{All}
use Rattle.transition_formula.specs.Transition.{Transition}
use Rattle.polyhedra.specs.Laws.{HaveCanonicalRows}
use Rattle.forward_graphs.proofs.walking.see_leaves.Given as goal

-- those that were gone over
abbrev pub invariant-loop-leaf : goal.invariant-loop-leaf
invariant-loop-leaf l = All (λ (f : Transition). HaveCanonicalRows f.cases) (take l.leaf-index l.leaves)
