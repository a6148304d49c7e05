use Rattle.replay.proofs.ChosenExecutions.{chosen_is_execution}
use Rattle.replay.proofs.laws.chosen_is_an_execution.Goals as goal

pub returns : goal.returns
returns c = chosen_is_execution
