use Rattle.star_completeness.proofs.Completeness.{star-relatively_complete}
use Rattle.star_completeness.proofs.laws.star_is_relatively_complete.Goals as goal

pub returns : goal.returns
returns c = star-relatively_complete c.normals_bound_turns.ensures
