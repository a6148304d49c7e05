use Rattle.facet_hull.proofs.Bodies.{images_have_the_bounds, images_have_a_point}
use Rattle.facet_hull.proofs.laws.images_have_the_bounds.Goals as goal

pub returns-clause-bounds : goal.returns-clause-bounds
returns-clause-bounds c = images_have_the_bounds

pub returns-clause-point : goal.returns-clause-point
returns-clause-point c = images_have_a_point
