use Rattle.point_rows.specs.Reading.{AreOverColumns}
use Rattle.point_candidates.proofs.offering.rows_over.Given as goal

abbrev pub invariant-loop-row : goal.invariant-loop-row
invariant-loop-row l = AreOverColumns l.columns l.kept
