use Rattle.std.proofs.Common.{◌≡◌, [], drop, length}
use Rattle.posing.specs.Follows.{Leads}
use Rattle.posing.specs.Posing.{each}
use Rattle.leaf_cases.specs.Summaries.{AreMet}
use Rattle.proc_summary.specs.Claims.{FlowHolds}
use Rattle.newton_rounds.specs.Members.{members_of}
use Rattle.analysis.specs.Claims.{EachOf, FitsAt}
use Rattle.analysis.specs.Parts.{with_flow}
use Rattle.analysis.proofs.parts.flows_by.Given as goal

abbrev pub invariant-loop-proc : goal.invariant-loop-proc
invariant-loop-proc g l =
    record {
      leads : Leads g.O.Oracle.asking l.initial.oracle l.oracle l.initial.log l.log (each (with_flow l.program l.known) [] (members_of l.program l.procs))
          (each (with_flow l.program l.known) l.flows (members_of l.program (drop l.proc-index l.procs)));
      long : length l.flows ≡ l.proc-index;
      fit : EachOf (FitsAt l.program) l.procs l.flows;
      hold : AreMet l.program l.known → EachOf (FlowHolds l.program) l.procs l.flows;
    }
