use Rattle.std.proofs.Common.{◌≡◌, ◌+◌, ◌++◌, length}
use Rattle.std.specs.Vec.Iter.{into_iter_items}
use Rattle.point_rounds.specs.Rounds.{points_left}
use Rattle.point_rounds.proofs.left.points_left.Given as goal

abbrev pub invariant-loop-lists : goal.invariant-loop-lists
invariant-loop-lists l =
    record {
      made : l.left ++ points_left l.source.program.now l.fallen l.proc (into_iter_items l.lists-iterator) ≡ points_left l.source.program.now l.fallen 0 l.fn.points;
      count : l.proc + length (into_iter_items l.lists-iterator) ≡ length l.fn.points;
    }
