use Rattle.summary_cache.proofs.Shapes.{accepted-well_formed}
use Rattle.summary_cache.proofs.laws.accepted_is_well_formed.Goals as goal

pub returns : goal.returns
returns c = accepted-well_formed
