-- What is asked where a group is summed up, what parts and findings are like, and what they say of
-- executions.
use Rattle.std.specs.Prelude.{◌≡◌, ◌<◌, ◌≤◌, ◌+◌, ℕ, All, List, [], ◌∷◌, ◌++◌, Option, Some, length, map, slice_get}
use Rattle.std.specs.List.{Contains}
use Rattle.syntax_tree.specs.declared.program.Proc.{Proc}
use Rattle.syntax_tree.specs.declared.program.Program.{Program}
use Rattle.syntax_tree.specs.WellFormed.{IsWellFormed}
use Rattle.execution.specs.Execution.{Fails}
use Rattle.transition_formula.specs.Transition.{Transition}
use Rattle.vocabularies.specs.Procs.{IsProcOf}
use Rattle.flow_graph.specs.declared.grouping.Group.{Group}
use Rattle.flow_graph.specs.FlowGraph.{CheckPlace}
use Rattle.flow_graph.specs.Groups.{AreGroupsAfter}
use Rattle.flow_graph.specs.Plain.{plain}
use Rattle.leaf_cases.specs.Conditions.{AreKnown, IsKnown}
use Rattle.leaf_cases.specs.Summaries.{AreMet, SummaryIsMet}
use Rattle.proc_summary.specs.declared.stop.Flow.{Flow}
use Rattle.proc_summary.specs.Claims.{FitsFlow, FlowHolds, KnowsCallees}
use Rattle.proc_summary.specs.Subject.{own_graph}
use Rattle.newton_rounds.specs.Claims.{AreKnownMembers, AreMetMembers}
use Rattle.newton_rounds.specs.Laws.{KnowsOthers}
use Rattle.newton_rounds.specs.Members.{IsLinear}
use Rattle.context.specs.Claims.{AreEntries, AreFlows, EntriesHold, FlowsHold}
use Rattle.report.specs.declared.blocks.Judged.{Judged}
use Rattle.report.specs.declared.verdict.Verdict.TheVariants.{Proved}
use Rattle.report.specs.Claims.{IsRefuted}
use Rattle.analysis.specs.declared.planning.GroupKind.{GroupKind}
use Rattle.analysis.specs.declared.planning.GroupKind.TheVariants.{Plain, Linear, Rounds}
use Rattle.analysis.specs.declared.planning.Planned.{Planned}
use Rattle.analysis.specs.declared.found.Found.{Found}
use Rattle.analysis.specs.declared.judging.JudgedText.{JudgedText}
use Rattle.analysis.specs.declared.places.TextPlace.{TextPlace}
use Rattle.analysis.specs.declared.standing.CheckAt.{CheckAt}
use Rattle.analysis.specs.declared.standing.Standing.{Standing}
use Rattle.analysis.specs.declared.whole.FoundReport.{FoundReport}
use Rattle.analysis.specs.Judging.{checks_of}
use Rattle.analysis.specs.Plan.{ArePlannedOf}

-- ---- what is asked

-- the callees of each of these procedures are known
abbrev pub KnowAllCallees : Program → List ℕ → List (Option Transition) → Type 0
KnowAllCallees program procs known =
    (proc : ℕ) (p : Proc) → Contains procs proc → IsProcOf program proc p
    → KnowsCallees p known

-- what the procedures of a group call is known, or of the group where that is recursive
abbrev pub KnowsFor : GroupKind → Program → List ℕ → List (Option Transition) → Type 0
KnowsFor Plain program procs known = KnowAllCallees program procs known
KnowsFor Linear program procs known = KnowsOthers program procs known
KnowsFor Rounds program procs known = KnowsOthers program procs known

-- a recursive group is linear where its kind says so, and not where it says rounds
abbrev pub IsLinearIf : GroupKind → Program → List ℕ → Type 0
IsLinearIf Plain program procs = Unit {0}
IsLinearIf Linear program procs = IsLinear program procs
IsLinearIf Rounds program procs = ¬ IsLinear program procs

-- it is a group of procedures of the program whose callees outside are known, and linear or
-- not as the plan says
pub record IsReadyGroup (program : Program) (planned : Planned)
    (known : List (Option Transition)) : Type 0 where
  pub there : All (λ proc. proc < length program.procs) planned.procs
  pub few : length planned.procs ≤ length program.procs
  pub callees : KnowsFor planned.kind program planned.procs known
  pub linear : IsLinearIf planned.kind program planned.procs

-- ---- one group

-- it fits the procedure of this number
abbrev pub FitsAt : Program → ℕ → Flow → Type 0
FitsAt program proc flow = (p : Proc) → IsProcOf program proc p
    → FitsFlow program p flow

-- the formula may be known of the procedure of this number
abbrev pub IsKnownAt : Program → ℕ → Transition → Type 0
IsKnownAt program proc f = (p : Proc) → IsProcOf program proc p → IsKnown program p f

-- each element has to do with the procedure at its place
abbrev pub EachOf : {X : Type 0} → (ℕ → X → Type 0) → List ℕ → List X → Type 0
EachOf {X} P procs xs = (place proc : ℕ) (x : X) → slice_get procs place ≡ Some proc
    → slice_get xs place ≡ Some x → P proc x

-- one that fits for each procedure of the group
pub record FitFlows (program : Program) (procs : List ℕ) (flows : List Flow) : Type 0 where
  pub each : length flows ≡ length procs
  pub fit : EachOf (FitsAt program) procs flows

-- each holds
abbrev pub AreFlowsOf : Program → List ℕ → List Flow → Type 0
AreFlowsOf program procs flows = EachOf (FlowHolds program) procs flows

-- a flow more, of a procedure by known formulas
pub record AddsFlow (program : Program) (known : List (Option Transition)) (proc : ℕ)
    (made next : List Flow) : Type 0 where
  pub flow : Flow
  pub is : next ≡ made ++ flow ∷ []
  pub fits : FitsAt program proc flow
  pub holds : AreMet program known → FlowHolds program proc flow

-- a summary more, of a procedure by known formulas
pub record AddsSummary (program : Program) (known : List (Option Transition)) (proc : ℕ)
    (made next : List Transition) : Type 0 where
  pub formula : Transition
  pub is : next ≡ made ++ formula ∷ []
  pub fits : IsKnownAt program proc formula
  pub met : AreMet program known → SummaryIsMet program proc formula

-- a summary and a flow for each procedure of the group
pub record FitsGroup (program : Program) (procs : List ℕ) (formulas : List Transition)
    (flows : List Flow) : Type 0 where
  pub known : AreKnownMembers program procs formulas
  pub fit : FitFlows program procs flows

-- the summaries are met, and the flows hold
pub record GroupIsMet (program : Program) (procs : List ℕ) (formulas : List Transition)
    (flows : List Flow) : Type 0 where
  pub summaries : AreMetMembers program procs formulas
  pub hold : AreFlowsOf program procs flows

-- ---- several groups

-- what is found fits its procedures
pub record FitsFound (program : Program) (found : Found) : Type 0 where
  pub known : AreKnown program found.known
  pub flows : length found.flows ≡ length program.procs
  pub notes : length found.notes ≡ length program.procs
  pub fit : (proc : ℕ) (flow : Flow) → slice_get found.flows proc ≡ Some (Some flow)
      → FitsAt program proc flow

-- the summary and the flow of a procedure
pub record IsFoundAt (found : Found) (proc : ℕ) : Type 0 where
  pub formula : Transition
  pub known : slice_get found.known proc ≡ Some (Some formula)
  pub flow : Flow
  pub flow_is : slice_get found.flows proc ≡ Some (Some flow)

-- each procedure that has come has its summary and its flow
abbrev pub HasFound : List ℕ → Found → Type 0
HasFound come found = (proc : ℕ) → Contains come proc → IsFoundAt found proc

-- each procedure of the program has its summary and its flow
abbrev pub HasAll : Program → Found → Type 0
HasAll program found = (proc : ℕ) → proc < length program.procs → IsFoundAt found proc

-- what is found and what is left of a plan: the groups behind the procedures that have come
pub record IsLeft (program : Program) (found : Found) (plan : List Planned) : Type 0 where
  pub come : List ℕ
  pub groups : List Group
  pub after : AreGroupsAfter program come groups
  pub planned : ArePlannedOf program groups plan
  pub has : HasFound come found

-- the summaries are met, and the flows hold
pub record FoundIsMet (program : Program) (found : Found) : Type 0 where
  pub summaries : AreMet program found.known
  pub flows : (proc : ℕ) (flow : Flow) → slice_get found.flows proc ≡ Some (Some flow)
      → FlowHolds program proc flow

-- ---- a report with what it is made by

-- what it is made by fits the program, and there is a summary of each procedure
pub record FitsFoundReport (program : Program) (made : FoundReport) : Type 0 where
  pub known : AreKnown program made.known
  pub all : (proc : ℕ) → proc < length program.procs
      → (f : Transition) × (slice_get made.known proc ≡ Some (Some f))
  pub flows : AreFlows program made.flows
  pub entries : AreEntries program made.entries

-- the summaries are met, and the flows and entries hold
pub record FoundReportHolds (program : Program) (made : FoundReport) : Type 0 where
  pub summaries : AreMet program made.known
  pub flows : FlowsHold program made.flows
  pub entries : EntriesHold program made.entries

-- ---- assertions

-- the places in the text are those of the program's assertions, in order
abbrev pub AreTheirPlaces : Program → List TextPlace → Type 0
AreTheirPlaces program places = map (λ (at : TextPlace). at.at) places ≡ program.checks

-- an assertion of a graph stands there
pub record IsCheckOf (program : Program) (c : CheckAt) : Type 0 where
  pub p : Proc
  pub is : IsProcOf program c.proc p
  pub at : CheckPlace
  pub at_is : slice_get (own_graph p).checks c.check ≡ Some at
  pub number : at.number ≡ c.number

-- the graph of each procedure, and where the assertions of all of them stand
pub record IsStanding (program : Program) (standing : Standing) : Type 0 where
  pub graphs : map plain standing.graphs ≡ map own_graph program.procs
  pub checks : standing.checks ≡ checks_of 0 program.procs

-- what a text is judged by is that of a well-formed program
pub record IsReadyText (text : JudgedText) : Type 0 where
  pub formed : IsWellFormed text.program.now
  pub standing : IsStanding text.program.now text.standing.now
  pub entries : AreEntries text.program.now text.entries.now
  pub flows : AreFlows text.program.now text.flows.now

-- no execution from `main` fails an assertion that is proved
abbrev pub IsJudged : Program → ℕ → Judged → Type 0
IsJudged program number judged = judged.verdict ≡ Proved → ¬ Fails program number

-- no execution from `main` fails an assertion that is proved, where the n-th of these, from 0, has
-- the number n + 1
abbrev pub AreJudged : Program → List Judged → Type 0
AreJudged program judged = (n : ℕ) (j : Judged) → slice_get judged n ≡ Some j
    → IsJudged program (n + 1) j

-- where a point is told, it makes the rows of its case true
abbrev pub AreRefuted : List Judged → Type 0
AreRefuted judged = (n : ℕ) (j : Judged) → slice_get judged n ≡ Some j → IsRefuted j.verdict

-- one more of a number, by entries and flows
pub record AddsJudged (program : Program) (entries : List (Option Transition)) (flows : List Flow)
    (made : List Judged) (number : ℕ) (all : List Judged) : Type 0 where
  pub judged : Judged
  pub is : all ≡ made ++ judged ∷ []
  pub refuted : IsRefuted judged.verdict
  pub sound : EntriesHold program entries → FlowsHold program flows → IsJudged program number judged
