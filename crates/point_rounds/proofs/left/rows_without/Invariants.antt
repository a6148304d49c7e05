use Rattle.std.proofs.Common.{◌≡◌, ◌+◌, ◌++◌, length}
use Rattle.std.specs.Vec.Iter.{into_iter_items}
use Rattle.point_rounds.specs.Parts.{rows_without}
use Rattle.point_rounds.proofs.left.rows_without.Given as goal

abbrev pub invariant-loop-row : goal.invariant-loop-row
invariant-loop-row l =
    record {
      made : l.left ++ rows_without l.numbers l.number (into_iter_items l.row-iterator) ≡ rows_without l.numbers 0 l.fn.rows;
      count : l.number + length (into_iter_items l.row-iterator) ≡ length l.fn.rows;
    }
