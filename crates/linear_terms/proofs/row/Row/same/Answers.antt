use Rattle.linear_terms.proofs.Equal.{row_decides}
use Rattle.linear_terms.proofs.row.Row.same.Goals as goal

pub returns : goal.returns
returns c = row_decides c.args.self.now c.args.other.now c.eq.result c.eq.ensures
