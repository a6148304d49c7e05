use Rattle.std.proofs.Common.{refl}
use Rattle.point_search.proofs.TableLists.{entry-of}
use Rattle.point_search.proofs.tables.rows_at_entry.Goals as goal

pub returns : goal.returns
returns c = entry-of c.args.program.now c.args.proc c.args.p.now _ _ c.in_ok-placed.placed c.entry_columns-columns.ensures refl c.in_ok-placed.ensures
