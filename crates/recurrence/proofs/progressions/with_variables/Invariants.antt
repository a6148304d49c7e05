use Rattle.std.proofs.Common.{drop}
use Rattle.posing.specs.Follows.{Leads}
use Rattle.posing.specs.Posing.{each}
use Rattle.recurrence.specs.Words.{by_variable}
use Rattle.recurrence.proofs.progressions.with_variables.Given as goal

abbrev pub invariant-loop-v : goal.invariant-loop-v
invariant-loop-v g l =
    Leads g.O.Oracle.asking l.initial.oracle l.oracle l.initial.log l.log (each (by_variable l.turns) l.fn.rows l.variables) (each (by_variable l.turns) l.made (drop l.v-index l.variables))
