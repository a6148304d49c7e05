use Rattle.std.proofs.Common.{sym}
use Rattle.path_expr.specs.Table.{entry, cell}
use Rattle.path_expr.proofs.TableLemmas.{cell-out, IsNext-as}
use Rattle.path_expr.proofs.table.Table.next_out.Goals as goal

pub returns : goal.returns
returns g c = record {
  next = IsNext-as (entry c.args.self.now.out c.args.n) (cell c.args.self.now c.args.n) c.args.from c.args.n c.next.result
      (λ k lt. sym (cell-out c.args.self.now c.args.n k lt)) c.next.ensures.next;
}
