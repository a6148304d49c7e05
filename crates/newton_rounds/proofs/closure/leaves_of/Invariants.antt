use Rattle.std.proofs.Common.{◌≡◌, ◌++◌, drop, map}
use Rattle.std.specs.List.{flat_map}
use Rattle.newton_rounds.specs.Closure.{group_leaf, losses_in_group_leaf, stretches_with}
use Rattle.newton_rounds.specs.Shapes.{plain_call}
use Rattle.newton_rounds.proofs.closure.leaves_of.Given as goal

abbrev pub invariant-loop-i : goal.invariant-loop-i
invariant-loop-i l =
    record {
      made :
          l.leaves ++ map (group_leaf l.members) (stretches_with (map plain_call (drop l.i l.calls)) (drop l.i l.sides))
          ≡ map (group_leaf l.members) (stretches_with (map plain_call l.calls) l.sides);
      noted :
          l.lost ++ flat_map (losses_in_group_leaf l.members) (stretches_with (map plain_call (drop l.i l.calls)) (drop l.i l.sides))
          ≡ l.fn.lost ++ flat_map (losses_in_group_leaf l.members) (stretches_with (map plain_call l.calls) l.sides);
    }
