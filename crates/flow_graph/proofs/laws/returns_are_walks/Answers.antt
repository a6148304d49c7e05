use Rattle.flow_graph.proofs.Theorems.{returns_are_walks}
use Rattle.flow_graph.proofs.laws.returns_are_walks.Goals as goal

pub returns : goal.returns
returns c = returns_are_walks
