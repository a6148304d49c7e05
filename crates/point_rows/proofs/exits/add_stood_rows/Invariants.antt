use Rattle.std.proofs.Common.{◌≡◌, ◌++◌, drop}
use Rattle.point_rows.specs.Reading.{stood_rows}
use Rattle.point_rows.proofs.exits.add_stood_rows.Given as goal

abbrev pub invariant-loop-row : goal.invariant-loop-row
invariant-loop-row l = l.all ++ stood_rows l.posts (drop l.row-index l.rows) ≡ l.initial.all ++ stood_rows l.posts l.rows
