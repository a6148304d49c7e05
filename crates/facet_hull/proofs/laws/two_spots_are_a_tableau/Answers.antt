use Rattle.facet_hull.proofs.TwoSpots.{two_spots}
use Rattle.facet_hull.proofs.laws.two_spots_are_a_tableau.Goals as goal

pub returns : goal.returns
returns c = two_spots
