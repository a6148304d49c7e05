use Rattle.std.proofs.Common.{◌≡◌, ◌++◌}
use Rattle.cones.specs.Split.{units}
use Rattle.cones.proofs.Units.{units_from}
use Rattle.cones.proofs.split.units.Given as goal

abbrev pub invariant-loop-place : goal.invariant-loop-place
invariant-loop-place l = l.made ++ units_from l.place l.count ≡ units l.count
