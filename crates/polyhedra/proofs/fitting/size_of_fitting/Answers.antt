use Rattle.polyhedra.proofs.FitLaws.{fitted-small}
use Rattle.polyhedra.proofs.fitting.size_of_fitting.Goals as goal

pub returns : goal.returns
returns c = fitted-small
