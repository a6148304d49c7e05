use Rattle.std.proofs.Common.{◌≡◌}
use Rattle.elimination.specs.Moves.{spots_to}
use Rattle.elimination.proofs.around.spots_to.Given as goal

abbrev pub invariant-loop-place : goal.invariant-loop-place
invariant-loop-place l = l.spots ≡ spots_to l.case l.inner l.place
