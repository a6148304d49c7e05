use Rattle.simplex.specs.Spots.{IsLastColumn}
use Rattle.simplex.proofs.spots.last_column.Given as goal

abbrev pub invariant-loop-column : goal.invariant-loop-column
invariant-loop-column l = IsLastColumn l.line l.column l.found
