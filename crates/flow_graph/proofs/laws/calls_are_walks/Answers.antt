use Rattle.flow_graph.proofs.Theorems.{calls_are_edges, calls_are_walks}
use Rattle.flow_graph.proofs.laws.calls_are_walks.Goals as goal

pub returns-clause-walks : goal.returns-clause-walks
returns-clause-walks c = calls_are_walks

pub returns-clause-edges : goal.returns-clause-edges
returns-clause-edges c = calls_are_edges
