use Rattle.farkas_check.proofs.Tight.{passing}
use Rattle.farkas_check.proofs.passing.truth_of_passing.Goals as goal

pub returns : goal.returns
returns c = passing
