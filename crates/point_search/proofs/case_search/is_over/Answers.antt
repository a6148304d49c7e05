use Rattle.transition_formula.proofs.ColumnTests.{every_column_decides}
use Rattle.point_search.proofs.case_search.is_over.Goals as goal

pub returns : goal.returns
returns c = every_column_decides c.args.columns 0 c.args.row.now.poly c.is_covered.result c.is_covered.ensures
