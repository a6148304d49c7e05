use Rattle.std.proofs.Common.{[], drop}
use Rattle.std.specs.Prelude.{None}
use Rattle.posing.specs.Follows.{Leads}
use Rattle.posing.specs.Posing.{each}
use Rattle.newton_rounds.specs.Candidates.{with_case}
use Rattle.newton_rounds.proofs.refuting.findings_over.Given as goal

abbrev pub invariant-loop-case : goal.invariant-loop-case
invariant-loop-case g l =
    Leads g.O.Oracle.asking l.initial.oracle l.oracle l.initial.log l.log (each (with_case l.f.from l.row) record { point = None; limits = [] } l.f.cases)
    (each (with_case l.f.from l.row) l.found (drop l.case-index l.case-items))
