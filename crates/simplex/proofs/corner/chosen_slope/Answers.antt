use Rattle.simplex.proofs.Memory.{slope-calm}
use Rattle.simplex.proofs.corner.chosen_slope.Goals as goal

pub returns-clause-calm : goal.returns-clause-calm
returns-clause-calm c n room small = slope-calm c.args.line.now c.args.column c.args.up c.args.own c.lowest_slope.result c.lowest_slope.ensures.exact n room small
