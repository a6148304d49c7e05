use Rattle.std.proofs.Common.{◌≡◌, ◌-◌, ◌++◌}
use Rattle.cones.specs.Split.{zeros}
use Rattle.facet_hull.proofs.lines.push_zeros.Given as goal

abbrev pub invariant-loop-place : goal.invariant-loop-place
invariant-loop-place l = l.made ++ zeros (l.count - l._place) ≡ l.initial.made ++ zeros l.count
