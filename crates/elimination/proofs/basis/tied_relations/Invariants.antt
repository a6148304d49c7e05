use Rattle.elimination.proofs.BasisSteps.{AreTiedSoFar}
use Rattle.elimination.proofs.basis.tied_relations.Given as goal

abbrev pub invariant-loop-place : goal.invariant-loop-place
invariant-loop-place l = AreTiedSoFar l.cases l.lower l.lines l.place l.made
