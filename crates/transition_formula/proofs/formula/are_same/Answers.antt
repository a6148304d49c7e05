use Rattle.std.proofs.Common.{refl}
use Rattle.std.proofs.lemmas.Slice.Eq.{slice_eq-Decides}
use Rattle.linear_terms.proofs.Equal.{row_decides, case_decides}
use Rattle.transition_formula.proofs.formula.are_same.Goals as goal

pub returns : goal.returns
returns c = slice_eq-Decides (λ x y. case_decides (λ r s. row_decides r s _ refl) x y _ refl) c.args.cases.now c.args.others.now c.eq.result c.eq.ensures
