use Rattle.std.proofs.Common.{take}
use Rattle.point_verdicts.specs.Parts.{HaveCanonicalSteps}
use Rattle.point_verdicts.proofs.steps.see_steps.Given as goal

abbrev pub invariant-loop-from : goal.invariant-loop-from
invariant-loop-from l = HaveCanonicalSteps (take l.from-index l.steps)
