use Rattle.std.proofs.Common.{drop}
use Rattle.posing.specs.Follows.{Leads}
use Rattle.posing.specs.Posing.{each}
use Rattle.polyhedra.specs.Settle.{settled_cases, with_settled}
use Rattle.polyhedra.proofs.settling.settle_cases.Given as goal

abbrev pub invariant-loop-case : goal.invariant-loop-case
invariant-loop-case g l = Leads g.O.Oracle.asking l.initial.oracle l.oracle l.initial.log l.log (settled_cases l.cases) (each with_settled l.made (drop l.case-index l.cases))
