use Rattle.std.proofs.Common.{take}
use Rattle.linear_terms.specs.Row.{AreCanonical}
use Rattle.linear_terms.proofs.row.see_rows.Given as goal

-- those that were gone over
abbrev pub invariant-loop-row : goal.invariant-loop-row
invariant-loop-row l = AreCanonical (take l.row-index l.rows)
