use Rattle.std.proofs.Common.{drop}
use Rattle.posing.specs.Follows.{Leads}
use Rattle.phases.specs.Phases.{cases_exclude}
use Rattle.phases.proofs.halving.cases_exclude.Given as goal

abbrev pub invariant-loop-case : goal.invariant-loop-case
invariant-loop-case g l =
    Leads g.O.Oracle.asking l.initial.oracle l.oracle l.initial.log l.log (cases_exclude l.poly l.cases) (cases_exclude l.poly (drop l.case-index l.cases))
