use Rattle.std.proofs.Common.{◌≡◌}
use Rattle.elimination.specs.Moves.{weights_to}
use Rattle.elimination.proofs.around.weights_to.Given as goal

abbrev pub invariant-loop-spot : goal.invariant-loop-spot
invariant-loop-spot l = l.made ≡ weights_to l.columns l.inner l.place l.spot
