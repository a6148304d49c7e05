-- The analysis of a program: groups of procedures in their order, then entries, then assertions.
use Rattle.std.specs.Prelude.{List, [], ◌∷◌, ◌++◌, Option, None, Some, take}
use Rattle.syntax_tree.specs.declared.program.Proc.{Proc}
use Rattle.syntax_tree.specs.declared.program.Program.{Program}
use Rattle.transition_formula.specs.Transition.{Transition}
use Rattle.posing.specs.declared.note.Note.{Note}
use Rattle.posing.specs.Posing.{Posing, Done, ◌>>=◌}
use Rattle.report.specs.declared.blocks.ProcBlock.{ProcBlock}
use Rattle.report.specs.declared.blocks.Report.{Report}
use Rattle.context.specs.Entries.{entries_from}
use Rattle.analysis.specs.declared.places.TextPlace.{TextPlace}
use Rattle.analysis.specs.declared.planning.Planned.{Planned}
use Rattle.analysis.specs.declared.found.Found.{Found}
use Rattle.analysis.specs.declared.whole.FoundReport.{FoundReport}
use Rattle.analysis.specs.Apart.{apart}
use Rattle.analysis.specs.Found.{findings_by_plan, flows_in}
use Rattle.analysis.specs.Judging.{column_names, global_names, judgements_on_all}

-- ---- the procedures' blocks

-- `before` names the globals and the parameters, `after` the globals
abbrev pub block_of : Program → Proc → Transition → List Note → ProcBlock
block_of program p formula notes =
    record {
      name = p.name;
      before = global_names program ++ column_names (take p.params p.columns);
      after = global_names program;
      formula = formula;
      notes = notes;
    }

-- the block of a procedure before the others; a procedure without a summary has none
abbrev pub block_onto : Program → Proc → Option Transition → List Note → List ProcBlock
    → List ProcBlock
block_onto program p None notes blocks = blocks
block_onto program p (Some f) notes blocks = block_of program p f notes ∷ blocks

-- the blocks of procedures in their order, as far as all lists go
abbrev pub blocks_by : Program → List Proc → List (Option Transition) → List (List Note)
    → List ProcBlock
blocks_by program (p ∷ procs) (f ∷ known) (notes ∷ others) =
    block_onto program p f notes (blocks_by program procs known others)
blocks_by program _ _ _ = []

-- ---- the whole

-- the report by what is found of the procedures, by the entries and by the notes of finding these
unfoldable pub report_by : Program → List TextPlace → Found → List (Option Transition) → List Note
    → Posing Report
report_by program places found entries notes =
    judgements_on_all program places entries (flows_in found) >>= λ judged.
    Done record {
      procs = blocks_by program program.procs found.known found.notes;
      notes = notes;
      judged = judged;
    }

-- the report by what is found of the procedures: the entries first, and then the assertions
unfoldable pub report_by_findings : Program → List TextPlace → Found → Posing Report
report_by_findings program places found =
    apart (entries_from program (flows_in found)) >>= λ entries.
    report_by program places found entries.0 entries.1

-- a report, with what it is made by
abbrev pub with_findings : Found → List (Option Transition) → Report → FoundReport
with_findings found entries report = record {
  report = report;
  known = found.known;
  flows = flows_in found;
  entries = entries;
}

-- the same report with what it is made by
unfoldable pub found_report : Program → List TextPlace → Found → Posing FoundReport
found_report program places found =
    apart (entries_from program (flows_in found)) >>= λ entries.
    report_by program places found entries.0 entries.1 >>= λ report.
    Done (with_findings found entries.0 report)

-- by the plan of the program
unfoldable pub report_by_plan : Program → List TextPlace → List Planned → Posing Report
report_by_plan program places plan = findings_by_plan program plan >>= λ found. report_by_findings program places found
