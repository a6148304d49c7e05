use Rattle.point_rows.proofs.ExitMeanings.{callees-stay, exit_calls-known, exit_formulas-known, exit_rows-met}
use Rattle.point_rows.proofs.laws.exit_rows_are_met.Goals as goal

pub returns-clause-met : goal.returns-clause-met
returns-clause-met c = exit_rows-met

pub returns-clause-calls : goal.returns-clause-calls
returns-clause-calls c = exit_calls-known

pub returns-clause-formulas : goal.returns-clause-formulas
returns-clause-formulas c = exit_formulas-known

pub returns-clause-callees : goal.returns-clause-callees
returns-clause-callees c = callees-stay
