use Rattle.flow_laws.proofs.TrueFlows.{summaries-true}
use Rattle.flow_laws.proofs.laws.summaries_are_true.Goals as goal

pub returns : goal.returns
returns c = summaries-true
