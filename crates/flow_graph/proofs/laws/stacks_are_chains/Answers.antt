use Rattle.flow_graph.proofs.StackChain.{stacks_are_chains, failures_are_in_chains}
use Rattle.flow_graph.proofs.laws.stacks_are_chains.Goals as goal

pub returns-clause-chains : goal.returns-clause-chains
returns-clause-chains c = stacks_are_chains

pub returns-clause-failures : goal.returns-clause-failures
returns-clause-failures c = failures_are_in_chains
