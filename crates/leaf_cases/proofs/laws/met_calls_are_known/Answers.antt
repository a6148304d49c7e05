use Rattle.leaf_cases.proofs.MetCalls.{met_calls_are_known, met_edges_are_known}
use Rattle.leaf_cases.proofs.laws.met_calls_are_known.Goals as goal

pub returns-clause-calls : goal.returns-clause-calls
returns-clause-calls c = met_calls_are_known

pub returns-clause-edges : goal.returns-clause-edges
returns-clause-edges c = met_edges_are_known
