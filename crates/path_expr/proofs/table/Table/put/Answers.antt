use Rattle.std.proofs.Common.{Some, refl, arith}
use Rattle.path_expr.proofs.TableLemmas.{OnOk-map, cell-write_into, cell-write_out}
use Rattle.path_expr.proofs.table.Table.put.Goals as goal

pub returns-then-i-j-clause-others : goal.returns-then-i-j-clause-others
returns-then-i-j-clause-others g c =
    OnOk-map c.put.result (λ w. cell-write_into c.args.self.now (record { into = c.put.new.self; out = c.args.self.now.out }) c.args.i c.args.j (Some c.args.item) c.if-i-j.true refl w) c.put.ensures.others

pub returns-else-i-j-clause-others : goal.returns-else-i-j-clause-others
returns-else-i-j-clause-others g c =
    OnOk-map c.put-else-i-j.result (λ w. cell-write_out c.args.self.now (record { into = c.args.self.now.into; out = c.put-else-i-j.new.self }) c.args.i c.args.j (Some c.args.item) (omega arith) refl w) c.put-else-i-j.ensures.others
