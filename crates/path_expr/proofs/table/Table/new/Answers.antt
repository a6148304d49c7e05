use Rattle.path_expr.proofs.TableLemmas.{cell-none}
use Rattle.path_expr.proofs.table.Table.new.Goals as goal

pub returns-clause-empty : goal.returns-clause-empty
returns-clause-empty g c = cell-none c.in_ok-into.into c.in_ok-out.out c.in_ok-into.ensures.empty c.in_ok-out.ensures.empty
