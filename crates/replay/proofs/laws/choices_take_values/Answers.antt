use Rattle.replay.proofs.ChosenExecutions.{choices_take_values}
use Rattle.replay.proofs.laws.choices_take_values.Goals as goal

pub returns : goal.returns
returns c = choices_take_values
