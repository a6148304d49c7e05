use Rattle.std.proofs.Common.{◌≡◌, [], drop, length}
use Rattle.posing.specs.Follows.{Leads}
use Rattle.posing.specs.Posing.{each}
use Rattle.leaf_cases.specs.Summaries.{AreMet, SummaryIsMet}
use Rattle.proc_summary.specs.Claims.{FlowHolds}
use Rattle.newton_rounds.specs.Members.{members_of}
use Rattle.analysis.specs.Claims.{EachOf, FitsAt, IsKnownAt}
use Rattle.analysis.specs.Parts.{with_plain}
use Rattle.analysis.proofs.parts.plain_part.Given as goal

abbrev pub invariant-loop-proc : goal.invariant-loop-proc
invariant-loop-proc g l =
    record {
      leads : Leads g.O.Oracle.asking l.initial.oracle l.oracle l.initial.log l.log
          (each (with_plain l.program l.known) (record { formulas = []; flows = [] }) (members_of l.program l.procs))
          (each (with_plain l.program l.known) l.made (members_of l.program (drop l.proc-index l.procs)));
      formulas : length l.made.formulas ≡ l.proc-index;
      flows : length l.made.flows ≡ l.proc-index;
      known : EachOf (IsKnownAt l.program) l.procs l.made.formulas;
      fit : EachOf (FitsAt l.program) l.procs l.made.flows;
      met : AreMet l.program l.known → EachOf (SummaryIsMet l.program) l.procs l.made.formulas;
      hold : AreMet l.program l.known → EachOf (FlowHolds l.program) l.procs l.made.flows;
    }
