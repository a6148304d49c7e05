use Rattle.polyhedra.proofs.FitLaws.{fitted-covers}
use Rattle.polyhedra.proofs.fitting.coverage_of_fitting.Goals as goal

pub returns : goal.returns
returns c = fitted-covers
