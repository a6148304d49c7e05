use Rattle.execution.proofs.Examples.{break_in_nested_loop, call_that_never_returns, continue_in_do}
use Rattle.execution.proofs.laws.worked_examples_run.Goals as goal

pub returns-clause-continues : goal.returns-clause-continues
returns-clause-continues c = continue_in_do

pub returns-clause-breaks : goal.returns-clause-breaks
returns-clause-breaks c = break_in_nested_loop

pub returns-clause-never_returns : goal.returns-clause-never_returns
returns-clause-never_returns c = call_that_never_returns
