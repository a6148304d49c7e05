use Rattle.std.proofs.Common.{◌≡◌, ◌++◌, drop}
use Rattle.cones.proofs.projecting.copies_of.Given as goal

abbrev pub invariant-loop-v : goal.invariant-loop-v
invariant-loop-v l = l.made ++ drop l.v-index l.vectors ≡ l.vectors
