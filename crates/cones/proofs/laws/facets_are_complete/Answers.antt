use Rattle.cones.proofs.Hulls.{facets-complete}
use Rattle.cones.proofs.laws.facets_are_complete.Goals as goal

pub returns : goal.returns
returns c = facets-complete
