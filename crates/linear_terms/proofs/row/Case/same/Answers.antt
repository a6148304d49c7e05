use Rattle.std.proofs.Common.{refl}
use Rattle.linear_terms.proofs.Equal.{row_decides, case_decides}
use Rattle.linear_terms.proofs.row.Case.same.Goals as goal

pub returns : goal.returns
returns c = case_decides (λ r s. row_decides r s _ refl) c.args.self.now c.args.other.now c.eq.result c.eq.ensures
