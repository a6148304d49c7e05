use Rattle.cones.proofs.Bits.{steps_make_what_is_defined}
use Rattle.cones.proofs.laws.steps_make_what_is_defined.Goals as goal

pub returns : goal.returns
returns c = steps_make_what_is_defined
