use Rattle.std.proofs.Common.{◌≡◌}
use Rattle.elimination.specs.Equations.{values_to}
use Rattle.elimination.proofs.points.entry_values.Given as goal

abbrev pub invariant-loop-place : goal.invariant-loop-place
invariant-loop-place l = l.made ≡ values_to l.columns l.point l.place
