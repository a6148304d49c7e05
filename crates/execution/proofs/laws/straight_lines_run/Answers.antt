use Rattle.execution.proofs.Straight.{changes_run, runs_change}
use Rattle.execution.proofs.laws.straight_lines_run.Goals as goal

pub returns-clause-forwards : goal.returns-clause-forwards
returns-clause-forwards c = changes_run

pub returns-clause-backwards : goal.returns-clause-backwards
returns-clause-backwards c = runs_change
