use Rattle.facet_hull.proofs.Turns.{relatively_complete}
use Rattle.facet_hull.proofs.laws.normals_bound_turns.Goals as goal

pub returns : goal.returns
returns c = relatively_complete
