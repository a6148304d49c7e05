use Rattle.facet_hull.proofs.Equations.{equations-are}
use Rattle.facet_hull.proofs.Exact.{normals-exact}
use Rattle.facet_hull.proofs.laws.normals_are_exact.Goals as goal

pub returns-clause-exact : goal.returns-clause-exact
returns-clause-exact c = normals-exact

pub returns-clause-equations : goal.returns-clause-equations
returns-clause-equations c = equations-are
