use Rattle.simplex.proofs.Memory.{multipliers-calm}
use Rattle.simplex.proofs.answering.multipliers.Goals as goal

pub returns-clause-calm : goal.returns-clause-calm
returns-clause-calm c n room small = multipliers-calm c.args.constants c.args.line.now c.unit_numbers.result c.unit_numbers.ensures.exact n room small
