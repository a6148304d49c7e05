use Rattle.std.proofs.Common.{drop, length}
use Rattle.posing.specs.Follows.{Leads}
use Rattle.posing.specs.Posing.{each}
use Rattle.analysis.specs.Claims.{FitsFound, FoundIsMet, IsLeft}
use Rattle.analysis.specs.Found.{nothing_found, with_group}
use Rattle.analysis.proofs.found.findings_by_plan.Given as goal

abbrev pub invariant-loop-planned : goal.invariant-loop-planned
invariant-loop-planned g l =
    record {
      leads : Leads g.O.Oracle.asking l.initial.oracle l.oracle l.initial.log l.log (each (with_group l.program) (nothing_found (length l.program.procs)) l.plan)
          (each (with_group l.program) l.found (drop l.planned-index l.plan));
      fits : FitsFound l.program l.found;
      met : FoundIsMet l.program l.found;
      left : IsLeft l.program l.found (drop l.planned-index l.plan);
    }
