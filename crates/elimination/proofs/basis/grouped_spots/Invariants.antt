use Rattle.elimination.proofs.BasisSteps.{AreGroupsSoFar}
use Rattle.elimination.proofs.basis.grouped_spots.Given as goal

abbrev pub invariant-loop-place : goal.invariant-loop-place
invariant-loop-place l = AreGroupsSoFar l.columns l.asked.cases l.probes l.inners l.place l.made
