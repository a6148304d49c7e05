use Rattle.std.proofs.Common.{◌≡◌, length, true}
use Rattle.farkas_check.specs.Columns.{columns}
use Rattle.farkas_check.specs.Steps.{are_scaled}
use Rattle.farkas_check.specs.Walk.{columns_after, multiplied_rows}
use Rattle.farkas_check.proofs.multiples.are_scaled_there.Given as goal

abbrev pub invariant-loop-column : goal.invariant-loop-column
invariant-loop-column l =
    are_scaled l.same l.rows l.terms l.by l.scale (columns_after l.last (columns (multiplied_rows l.rows l.by) l.terms))
    ≡ are_scaled true l.rows l.terms l.by l.scale (columns (multiplied_rows l.rows l.by) l.terms)

abbrev pub decreases-loop-column : goal.decreases-loop-column
decreases-loop-column l = length (columns_after l.last (columns (multiplied_rows l.rows l.by) l.terms))
