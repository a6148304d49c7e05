use Rattle.std.proofs.Common.{◌≡◌, ◌++◌, ◌∷◌, drop, length}
use Rattle.std.specs.Vec.Iter.{into_iter_items}
use Rattle.point_rounds.specs.Rounds.{lists_left}
use Rattle.point_rounds.proofs.left.lists_left.Given as goal

abbrev pub invariant-loop-rows : goal.invariant-loop-rows
invariant-loop-rows l =
    l.left ++ lists_left l.fallen l.proc (drop (length l.left) (0 ∷ l.heads)) (into_iter_items l.rows-iterator) ≡ lists_left l.fallen l.proc (0 ∷ l.heads) l.fn.lists
