use Rattle.std.proofs.Common.{◌≡◌, ◌++◌, map, drop}
use Rattle.leaf_cases.specs.Listed.{beside}
use Rattle.leaf_cases.proofs.listed.push_beside.Given as goal

abbrev pub invariant-loop-second : goal.invariant-loop-second
invariant-loop-second l = l.made ++ map (beside l.first) (drop l.second-index l.seconds) ≡ l.initial.made ++ map (beside l.first) l.seconds
