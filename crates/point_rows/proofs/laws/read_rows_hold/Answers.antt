use Rattle.point_rows.proofs.RowMeanings.{contraries_decide, contraries_exclude, contraries_hold, given_rows-hold}
use Rattle.point_rows.proofs.laws.read_rows_hold.Goals as goal

pub returns-clause-given : goal.returns-clause-given
returns-clause-given c = given_rows-hold

pub returns-clause-decide : goal.returns-clause-decide
returns-clause-decide c = contraries_decide

pub returns-clause-contrary : goal.returns-clause-contrary
returns-clause-contrary c = contraries_hold

pub returns-clause-exclude : goal.returns-clause-exclude
returns-clause-exclude c = contraries_exclude
