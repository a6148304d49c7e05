use Rattle.std.proofs.Common.{◌≡◌, ◌++◌, map, drop}
use Rattle.std.specs.List.{flat_map}
use Rattle.leaf_cases.specs.Listed.{beside}
use Rattle.leaf_cases.proofs.listed.both.Given as goal

abbrev pub invariant-loop-first : goal.invariant-loop-first
invariant-loop-first l = l.made ++ flat_map (λ first. map (beside first) l.seconds) (drop l.first-index l.firsts) ≡ flat_map (λ first. map (beside first) l.seconds) l.firsts
