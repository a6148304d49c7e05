use Rattle.std.proofs.Common.{◌≡◌, ◌+◌, ◌++◌, length}
use Rattle.std.specs.Vec.Iter.{into_iter_items}
use Rattle.point_rounds.specs.Rounds.{exits_left}
use Rattle.point_rounds.proofs.left.exits_left.Given as goal

abbrev pub invariant-loop-rows : goal.invariant-loop-rows
invariant-loop-rows l =
    record {
      made : l.left ++ exits_left l.fallen l.proc (into_iter_items l.rows-iterator) ≡ exits_left l.fallen 0 l.fn.exits;
      count : l.proc + length (into_iter_items l.rows-iterator) ≡ length l.fn.exits;
    }
