use Rattle.flow_laws.proofs.TrueFlows.{flows-true}
use Rattle.flow_laws.proofs.laws.flows_are_true.Goals as goal

pub returns : goal.returns
returns c = flows-true
