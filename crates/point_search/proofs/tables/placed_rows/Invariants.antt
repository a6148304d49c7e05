use Rattle.point_search.specs.Shapes.{ArePlacedUnless}
use Rattle.point_search.proofs.tables.placed_rows.Given as goal

abbrev pub invariant-loop-row : goal.invariant-loop-row
invariant-loop-row l = ArePlacedUnless l.none l.columns l.placed
