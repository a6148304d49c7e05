use Rattle.std.proofs.Common.{sym, arith}
use Rattle.path_expr.specs.Table.{entry, cell}
use Rattle.path_expr.proofs.TableLemmas.{cell-into, IsNext-as}
use Rattle.path_expr.proofs.table.Table.next_into.Goals as goal

pub returns : goal.returns
returns g c = record {
  next = IsNext-as (entry c.args.self.now.into c.args.n) (λ i. cell c.args.self.now i c.args.n) c.args.from c.args.n c.next.result
      (λ k lt. sym (cell-into c.args.self.now k c.args.n (omega arith))) c.next.ensures.next;
}
