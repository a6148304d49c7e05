use Rattle.std.proofs.Common.{None, Some, sym, subst}
use Rattle.std.specs.List.{slice_get}
use Rattle.path_expr.specs.Table.{row_entry, IsNext}
use Rattle.path_expr.proofs.TableLemmas.{next-none, next-some}
use Rattle.path_expr.proofs.rows.Rows.next.Goals as goal

pub returns-in_err-column : goal.returns-in_err-column
returns-in_err-column g c = record {
  next = subst (λ o. IsNext (row_entry (slice_get c.args.self.now.maps.items c.args.row)) c.args.from c.args.end o) (sym c.from_residual-in_err-column.ensures)
      (subst (λ o. IsNext (row_entry o) c.args.from c.args.end None) c.in_ok-map.ensures.value
      (next-none c.in_ok-map.map.now c.args.from c.args.end c.range.result (c.range.ensures.in_range tt) c.in_err-column.ensures.steps.0));
}

pub returns : goal.returns
returns g c = record {
  next = subst (λ o. IsNext (row_entry o) c.args.from c.args.end (Some c.in_ok-column.column.now)) c.in_ok-map.ensures.value
      (next-some c.in_ok-map.map.now c.args.from c.args.end c.range.result (c.range.ensures.in_range tt)
      c.in_ok-column.column.now c.in_ok-column.field-0-1.now c.next.new.self c.in_ok-column.ensures.steps);
}
