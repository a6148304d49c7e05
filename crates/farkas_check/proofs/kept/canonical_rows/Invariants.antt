use Rattle.std.proofs.Common.{take}
use Rattle.linear_terms.specs.Row.{AreCanonical}
use Rattle.farkas_check.proofs.kept.canonical_rows.Given as goal

abbrev pub invariant-loop-row : goal.invariant-loop-row
invariant-loop-row l = AreCanonical (take l.row-index l.rows)
