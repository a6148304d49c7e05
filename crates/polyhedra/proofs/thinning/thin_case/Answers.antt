use Rattle.std.proofs.Common.{refl}
use Rattle.polyhedra.specs.Thin.{thinned_case}
use Rattle.posing.proofs.Steps.{value_first, at_end}
use Rattle.polyhedra.proofs.thinning.thin_case.Goals as goal

pub returns : goal.returns
unfolding thinned_case
returns g c = value_first _ c.in_ok-rows.ensures refl (at_end refl)
