use Rattle.std.proofs.Common.{Some, length, refl}
use Rattle.std.proofs.lemmas.Option.{slice_get_read}
use Rattle.path_expr.proofs.TableLemmas.{row_entry-set}
use Rattle.path_expr.proofs.rows.Rows.put.Goals as goal

pub returns-clause-others : goal.returns-clause-others
returns-clause-others g c =
    let maps = c.args.self.now.maps.items in
    row_entry-set maps c.args.row c.args.column c.index_mut.result.now c.insert.new.self (Some c.args.item)
    (slice_get_read maps (length maps) c.args.row c.index_mut.result.now refl c.requires c.index_mut.ensures.value)
    c.requires c.in_ok-insert.ensures.updates
