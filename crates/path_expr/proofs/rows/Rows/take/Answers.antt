use Rattle.std.proofs.Common.{None, length, refl, ◌<◌, arith}
use Rattle.std.proofs.lemmas.Option.{slice_get_read}
use Rattle.path_expr.proofs.TableLemmas.{row_entry-set}
use Rattle.path_expr.proofs.rows.Rows.take.Goals as goal

pub returns-clause-others : goal.returns-clause-others
returns-clause-others g c =
    let maps = c.args.self.now.maps.items in
    let within : c.args.row < length maps = let h = c.in_ok-get_mut.ensures.variant.0 refl in omega (arith, h) in
    row_entry-set maps c.args.row c.args.column c.in_ok-get_mut.field-0.now c.remove.new.self None
    (slice_get_read maps (length maps) c.args.row c.in_ok-get_mut.field-0.now refl within c.in_ok-get_mut.ensures.value)
    within c.remove.ensures.updates
