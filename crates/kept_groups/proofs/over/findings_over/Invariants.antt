use Rattle.std.specs.Option.{option_copied}
use Rattle.kept_groups.proofs.PlanLoop.{Goes}
use Rattle.kept_groups.proofs.over.findings_over.Given as goal

abbrev pub invariant-loop-planned : goal.invariant-loop-planned
invariant-loop-planned g l = Goes g.O.Oracle.asking (option_copied l.kept) l.program l.plan l.initial.oracle l.initial.steps l.planned-index l.oracle l.steps l.made
