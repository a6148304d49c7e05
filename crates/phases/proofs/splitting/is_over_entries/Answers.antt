use Rattle.transition_formula.proofs.ColumnTests.{every_column_decides}
use Rattle.phases.proofs.splitting.is_over_entries.Goals as goal

pub returns : goal.returns
returns c = every_column_decides c.args.from 0 c.args.poly.now c.is_covered.result c.is_covered.ensures
