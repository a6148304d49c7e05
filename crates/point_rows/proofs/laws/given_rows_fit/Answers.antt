use Rattle.point_rows.proofs.ReadColumns.{given_rows-canonical, given_rows-fit}
use Rattle.point_rows.proofs.laws.given_rows_fit.Goals as goal

pub returns-clause-columns : goal.returns-clause-columns
returns-clause-columns c = given_rows-fit

pub returns-clause-canonical : goal.returns-clause-canonical
returns-clause-canonical c = given_rows-canonical
