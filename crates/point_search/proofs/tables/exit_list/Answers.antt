use Rattle.std.proofs.Common.{refl}
use Rattle.point_search.proofs.TableLists.{exit-of}
use Rattle.point_search.proofs.tables.exit_list.Goals as goal

pub returns : goal.returns
returns c = exit-of c.args.source.program.now c.args.proc c.proc_at-p.result.now _ _ c.in_ok-placed.placed c.proc_at-p.ensures.is c.pair_columns-columns.ensures refl c.in_ok-placed.ensures
