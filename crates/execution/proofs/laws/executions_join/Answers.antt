use Rattle.execution.proofs.Joining.{runs_join}
use Rattle.execution.proofs.laws.executions_join.Goals as goal

pub returns : goal.returns
returns c = runs_join
