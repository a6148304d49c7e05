use Rattle.point_search.proofs.TableLists.{table-made}
use Rattle.point_search.proofs.tables.table_of.Goals as goal

pub returns : goal.returns
returns c = table-made c.args.source.program.now _ c.in_ok-points.ensures c.in_ok-exits.ensures
