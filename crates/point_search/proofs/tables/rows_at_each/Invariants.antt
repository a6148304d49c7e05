use Rattle.point_search.specs.Shapes.{ArePlacedAt}
use Rattle.point_search.proofs.tables.rows_at_each.Given as goal

abbrev pub invariant-loop-node : goal.invariant-loop-node
invariant-loop-node l = ArePlacedAt l.node-index l.columns l.lists
