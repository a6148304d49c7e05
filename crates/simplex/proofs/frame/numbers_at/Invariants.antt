use Rattle.std.proofs.Common.{drop}
use Rattle.simplex.proofs.SpreadNumbers.{IsSpread}
use Rattle.simplex.proofs.frame.numbers_at.Given as goal

abbrev pub invariant-loop-column : goal.invariant-loop-column
invariant-loop-column l = IsSpread l.terms l.columns l.line l.left (drop l.column-index l.columns)
