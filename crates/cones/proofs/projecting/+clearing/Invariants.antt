use Rattle.std.proofs.Common.{length}
use Rattle.cones.proofs.projecting.+clearing.Given as goal

abbrev pub decreases-clearing : goal.decreases-clearing
decreases-clearing l = length l.basis.now
