use Rattle.simplex.proofs.Memory.{corner-calm}
use Rattle.simplex.proofs.corner.chosen_number.Goals as goal

pub returns-clause-calm : goal.returns-clause-calm
returns-clause-calm c n room small = corner-calm c.args.line.now c.args.constants c.args.column c.lowest_number.result c.lowest_number.ensures.exact n room small
