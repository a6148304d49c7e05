use Rattle.hull_limits.proofs.CalmBodies.{calm_bodies}
use Rattle.hull_limits.proofs.laws.calm_bodies_have_no_limit.Goals as goal

pub returns : goal.returns
returns c = calm_bodies c.two_spots_are_a_tableau.ensures
