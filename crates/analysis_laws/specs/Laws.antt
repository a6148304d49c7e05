-- Which assertions are told without a question: those that stand in no graph. That every end of the
-- stated analysis covers its program, with summaries that hold.
use Rattle.std.specs.Prelude.{◌≡◌, ◌↔◌, ℕ, List, Option, None, Some, slice_get}
use Rattle.syntax_tree.specs.declared.program.Proc.{Proc}
use Rattle.syntax_tree.specs.declared.program.Program.{Program}
use Rattle.syntax_tree.specs.WellFormed.{IsWellFormed}
use Rattle.execution.specs.Execution.{Fails}
use Rattle.transition_formula.specs.Transition.{Transition}
use Rattle.flow_graph.specs.FlowGraph.{CheckPlace}
use Rattle.leaf_cases.specs.Conditions.{AreKnown}
use Rattle.leaf_cases.specs.Summaries.{AreMet, SummaryIsMet}
use Rattle.posing.specs.Posing.{AlwaysPassing}
use Rattle.vocabularies.specs.Procs.{IsProcOf}
use Rattle.proc_summary.specs.declared.stop.Flow.{Flow}
use Rattle.proc_summary.specs.Subject.{own_graph}
use Rattle.context.specs.Claims.{AreEntries, AreFlows}
use Rattle.report.specs.declared.blocks.ProcBlock.{ProcBlock}
use Rattle.report.specs.declared.blocks.Report.{Report}
use Rattle.report.specs.Claims.{PointsMeetRows, ReportCovers}
use Rattle.analysis.specs.declared.found.Found.{Found}
use Rattle.analysis.specs.declared.parts.Part.{Part}
use Rattle.analysis.specs.declared.places.TextPlace.{TextPlace}
use Rattle.analysis.specs.declared.planning.Planned.{Planned}
use Rattle.analysis.specs.Analysis.{report_by_plan}
use Rattle.analysis.specs.Claims.{AreTheirPlaces, FitsFound, FitsGroup, FoundIsMet, GroupIsMet, HasAll, IsReadyGroup}
use Rattle.analysis.specs.Found.{findings_by_plan}
use Rattle.analysis.specs.Judging.{numbered_assertion}
use Rattle.analysis.specs.Parts.{part_of}
use Rattle.analysis.specs.Plan.{IsPlan}

-- the assertion of this number stands in the graph of a procedure
pub record StandsInGraph (program : Program) (number : ℕ) : Type 0 where
  pub proc : ℕ
  pub p : Proc
  pub is : IsProcOf program proc p
  pub place : ℕ
  pub at : CheckPlace
  pub at_is : slice_get (own_graph p).checks place ≡ Some at
  pub number_is : at.number ≡ number

-- Where each procedure has its entry and its flow, an assertion lacks what its verdict is found by
-- exactly where it stands in no graph.
abbrev pub UnreachedStandNowhere : Type 0
UnreachedStandNowhere =
    (program : Program) (entries : List (Option Transition)) (flows : List Flow)
    → AreEntries program entries → AreFlows program flows → (number : ℕ)
    → (numbered_assertion program entries flows number ≡ None) ↔ (¬ StandsInGraph program number)

-- An assertion that stands in no graph fails in no execution.
abbrev pub UnreachedNeverFail : Type 0
UnreachedNeverFail = (program : Program) (number : ℕ) → ¬ StandsInGraph program number
    → ¬ Fails program number

-- ---- every end of the stated analysis

-- it fits its group, and is met where the known formulas are
pub record IsFinePart (program : Program) (planned : Planned) (known : List (Option Transition))
    (part : Part) : Type 0 where
  pub fits : FitsGroup program planned.procs part.formulas part.flows
  pub met : AreMet program known → GroupIsMet program planned.procs part.formulas part.flows

-- Every end of what is stated to be found of a ready group fits and is met, whatever the answers
-- are, as long as they are true and pass.
abbrev pub PartsAreMet : Type 0
PartsAreMet =
    (program : Program) (planned : Planned) (known : List (Option Transition)) → IsWellFormed program
    → AreKnown program known → IsReadyGroup program planned known
    → AlwaysPassing (IsFinePart program planned known) (part_of program planned known)

-- what is found fits its procedures, each procedure has its summary and its flow, and these are met
pub record IsWhole (program : Program) (found : Found) : Type 0 where
  pub fits : FitsFound program found
  pub all : HasAll program found
  pub met : FoundIsMet program found

-- Every end of what is stated to be found of a well-formed program, by its plan, is whole, whatever
-- the answers are, as long as they are true and pass.
abbrev pub FoundIsWhole : Type 0
FoundIsWhole = (program : Program) (plan : List Planned) → IsWellFormed program
    → IsPlan program plan → AlwaysPassing (IsWhole program) (findings_by_plan program plan)

-- Every end of the stated analysis of a well-formed program, by its plan and with the places of its
-- assertions, is a report that covers the program. So the arms of the definitions for a procedure
-- without a summary (`block_onto` at `None`), for lists of another length (`blocks_by`) and for too
-- few elements (`put_at`) are met by no well-formed program.
abbrev pub ReportsCover : Type 0
ReportsCover = (program : Program) (places : List TextPlace) (plan : List Planned)
    → IsWellFormed program → IsPlan program plan → AreTheirPlaces program places
    → AlwaysPassing (ReportCovers program) (report_by_plan program places plan)

-- the summary of each block holds of every execution of its procedure that returns
abbrev pub SummariesHold : Program → Report → Type 0
SummariesHold program report =
    (proc : ℕ) (block : ProcBlock) → slice_get report.procs proc ≡ Some block
    → SummaryIsMet program proc block.formula

-- Every summary of such a report holds.
abbrev pub ReportedSummariesHold : Type 0
ReportedSummariesHold = (program : Program) (places : List TextPlace) (plan : List Planned)
    → IsWellFormed program → IsPlan program plan
    → AlwaysPassing (SummariesHold program) (report_by_plan program places plan)

-- Each point that any end of the stated analysis tells makes the rows of its case true.
abbrev pub ReportedPointsMeetRows : Type 0
ReportedPointsMeetRows = (program : Program) (places : List TextPlace) (plan : List Planned)
    → AlwaysPassing PointsMeetRows (report_by_plan program places plan)
