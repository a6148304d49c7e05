use Rattle.flow_graph.proofs.OneList.{groups_are_determined}
use Rattle.flow_graph.proofs.laws.groups_are_determined.Goals as goal

pub returns : goal.returns
returns c = groups_are_determined
