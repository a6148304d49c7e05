use Rattle.std.proofs.Common.{None, ◌∙◌, sym, refl, arith}
use Rattle.path_expr.proofs.TableLemmas.{cell-into, cell-out, cell-write_into, cell-write_out}
use Rattle.path_expr.proofs.table.Table.take.Goals as goal

pub returns-then-i-j-clause-value : goal.returns-then-i-j-clause-value
returns-then-i-j-clause-value g c = c.take.ensures.value ∙ sym (cell-into c.args.self.now c.args.i c.args.j c.if-i-j.true)

pub returns-then-i-j-clause-others : goal.returns-then-i-j-clause-others
returns-then-i-j-clause-others g c =
    cell-write_into c.args.self.now (record { into = c.take.new.self; out = c.args.self.now.out }) c.args.i c.args.j None c.if-i-j.true refl c.take.ensures.others

pub returns-else-i-j-clause-value : goal.returns-else-i-j-clause-value
returns-else-i-j-clause-value g c = c.take-else-i-j.ensures.value ∙ sym (cell-out c.args.self.now c.args.i c.args.j (omega arith))

pub returns-else-i-j-clause-others : goal.returns-else-i-j-clause-others
returns-else-i-j-clause-others g c =
    cell-write_out c.args.self.now (record { into = c.args.self.now.into; out = c.take-else-i-j.new.self }) c.args.i c.args.j None (omega arith) refl c.take-else-i-j.ensures.others
