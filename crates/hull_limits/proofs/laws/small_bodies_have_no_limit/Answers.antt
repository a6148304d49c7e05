use Rattle.hull_limits.proofs.SmallBodies.{small_bodies}
use Rattle.hull_limits.proofs.laws.small_bodies_have_no_limit.Goals as goal

pub returns : goal.returns
returns c = small_bodies
