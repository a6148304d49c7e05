use Rattle.flow_graph.proofs.Heights.{heights_grow, returns_have_heights}
use Rattle.flow_graph.proofs.laws.returns_have_heights.Goals as goal

pub returns-clause-heights : goal.returns-clause-heights
returns-clause-heights c = returns_have_heights

pub returns-clause-grow : goal.returns-clause-grow
returns-clause-grow c = heights_grow
