use Rattle.std.proofs.Common.{refl}
use Rattle.std.proofs.lemmas.Slice.Eq.{slice_eq-Decides}
use Rattle.linear_terms.proofs.Equal.{poly_eq_decides}
use Rattle.polyhedra.proofs.vocabulary.are_same_terms.Goals as goal

pub returns : goal.returns
returns c = slice_eq-Decides (λ x y. poly_eq_decides x y _ refl) c.args.terms.now c.args.others.now c.eq.result c.eq.ensures
