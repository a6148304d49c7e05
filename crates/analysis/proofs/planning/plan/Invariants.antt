use Rattle.std.proofs.Common.{take}
use Rattle.analysis.specs.Plan.{ArePlannedOf}
use Rattle.analysis.proofs.planning.plan.Given as goal

abbrev pub invariant-loop-group : goal.invariant-loop-group
invariant-loop-group l = ArePlannedOf l.program (take l.group-index l.group-items) l.plan
