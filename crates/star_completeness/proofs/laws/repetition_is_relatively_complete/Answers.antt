use Rattle.star_completeness.proofs.Completeness.{repetition-relatively_complete}
use Rattle.star_completeness.proofs.laws.repetition_is_relatively_complete.Goals as goal

pub returns : goal.returns
returns c = repetition-relatively_complete c.normals_bound_turns.ensures
