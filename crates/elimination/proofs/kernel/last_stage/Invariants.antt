use Rattle.std.proofs.Common.{◌-◌}
use Rattle.elimination.specs.Stages.{IsStage}
use Rattle.elimination.proofs.kernel.last_stage.Given as goal

abbrev pub invariant-loop-taken : goal.invariant-loop-taken
invariant-loop-taken l = IsStage l.columns l.cases l.lower (l.count - l.taken) l.stage
