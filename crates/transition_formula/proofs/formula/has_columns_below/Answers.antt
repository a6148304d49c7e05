use Rattle.transition_formula.proofs.ColumnTests.{every_column_decides}
use Rattle.transition_formula.proofs.formula.has_columns_below.Goals as goal

pub returns : goal.returns
returns c = every_column_decides c.args.from c.args.aux c.args.poly.now c.is_covered.result c.is_covered.ensures
