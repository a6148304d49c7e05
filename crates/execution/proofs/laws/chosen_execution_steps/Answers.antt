use Rattle.execution.proofs.ChosenExecutions.{chosen_begins, chosen_steps, steps_can_run}
use Rattle.execution.proofs.laws.chosen_execution_steps.Goals as goal

pub returns-clause-begins : goal.returns-clause-begins
returns-clause-begins c = chosen_begins

pub returns-clause-steps : goal.returns-clause-steps
returns-clause-steps c = chosen_steps

pub returns-clause-goes_on : goal.returns-clause-goes_on
returns-clause-goes_on c = steps_can_run
