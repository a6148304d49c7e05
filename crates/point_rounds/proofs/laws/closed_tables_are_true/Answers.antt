use Rattle.point_rows.proofs.ExitMeanings.{exit_rows-met}
use Rattle.point_rounds.proofs.CoveredPassages.{closed_tables_are_true}
use Rattle.point_rounds.proofs.laws.closed_tables_are_true.Goals as goal

pub returns : goal.returns
returns c = closed_tables_are_true exit_rows-met
