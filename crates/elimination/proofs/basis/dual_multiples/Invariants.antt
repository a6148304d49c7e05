use Rattle.std.proofs.Common.{length}
use Rattle.farkas_check.specs.Relations.{entry}
use Rattle.elimination.proofs.BasisSteps.{AreMultiplesSoFar}
use Rattle.elimination.proofs.basis.dual_multiples.Given as goal

abbrev pub invariant-loop-place : goal.invariant-loop-place
invariant-loop-place l = AreMultiplesSoFar (length l.columns) (entry l.dual (length l.probes)) l.dual l.probes l.inners l.place l.made
