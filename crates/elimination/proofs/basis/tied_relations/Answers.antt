use Rattle.std.proofs.Common.{arith}
use Rattle.elimination.proofs.BasisSteps.{tied-end}
use Rattle.elimination.proofs.basis.tied_relations.Goals as goal

pub returns : goal.returns
returns c = tied-end c.args.cases.now c.args.lower.now c.args.lines.now c.loop-place.place c.loop-place.made (omega arith) c.loop-place.invariant
