use Rattle.facet_hull.proofs.Whole.{normals-hull}
use Rattle.facet_hull.proofs.laws.normals_are_the_hull.Goals as goal

pub returns : goal.returns
returns c = normals-hull
