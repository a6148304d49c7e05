use Rattle.std.proofs.Common.{length, subst, IfOk}
use Rattle.point_search.specs.Shapes.{ArePlacedAt}
use Rattle.point_search.proofs.tables.rows_at_heads.Goals as goal

pub returns : goal.returns
returns c = subst (λ n. IfOk c.rows_at_each.result (ArePlacedAt (length c.args.heads.now) n)) c.state_columns-columns.ensures c.rows_at_each.ensures
