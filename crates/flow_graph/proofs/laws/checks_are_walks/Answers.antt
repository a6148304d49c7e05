use Rattle.flow_graph.proofs.Theorems.{checks_are_walks}
use Rattle.flow_graph.proofs.laws.checks_are_walks.Goals as goal

pub returns : goal.returns
returns c = checks_are_walks
