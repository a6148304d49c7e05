use Rattle.std.proofs.Common.{◌≡◌, drop}
use Rattle.point_rows.specs.Reading.{given_rows}
use Rattle.point_rows.proofs.given.given_rows.Given as goal

abbrev pub invariant-loop-row : goal.invariant-loop-row
invariant-loop-row l = given_rows l.posts l.given (drop l.row-index l.rows) ≡ given_rows l.posts l.own l.rows
