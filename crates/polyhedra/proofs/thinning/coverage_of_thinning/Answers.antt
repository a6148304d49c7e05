use Rattle.polyhedra.proofs.ThinLaws.{thinned-covers}
use Rattle.polyhedra.proofs.thinning.coverage_of_thinning.Goals as goal

pub returns : goal.returns
returns c = thinned-covers
