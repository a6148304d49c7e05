use Rattle.std.proofs.Common.{◌∙◌, sym, arith}
use Rattle.path_expr.proofs.TableLemmas.{cell-into, cell-out}
use Rattle.path_expr.proofs.table.Table.get.Goals as goal

pub returns-then-i-j : goal.returns-then-i-j
returns-then-i-j g c = record { value = c.get.ensures.value ∙ sym (cell-into c.args.self.now c.args.i c.args.j (omega arith)) }

pub returns-else-i-j : goal.returns-else-i-j
returns-else-i-j g c = record { value = c.get-else-i-j.ensures.value ∙ sym (cell-out c.args.self.now c.args.i c.args.j (omega arith)) }
