use Rattle.elimination.specs.Stages.{AreDuals}
use Rattle.elimination.proofs.kernel.duals.Given as goal

abbrev pub invariant-loop-own : goal.invariant-loop-own
invariant-loop-own l = AreDuals l.columns l.cases l.lower l.stage.probes l.stage.free l.own l.duals
