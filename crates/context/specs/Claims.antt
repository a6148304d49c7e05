-- What is asked of entries and flows, and what entries and verdicts say of executions from `main`.
use Rattle.std.specs.Prelude.{◌≡◌, ℕ, IsTrue, List, [], ◌++◌, Option, None, Some, length, slice_get}
use Rattle.syntax_tree.specs.declared.program.Proc.{Proc}
use Rattle.syntax_tree.specs.declared.program.Program.{Program}
use Rattle.execution.specs.Execution.{initial_globals}
use Rattle.execution.specs.Machine.{Config}
use Rattle.flow_graph.specs.Stack.{Beginning, IsChain}
use Rattle.transition_formula.specs.Transition.{Transition, IsTransition, IsFitted, fits}
use Rattle.vocabularies.specs.Ends.{entry_width}
use Rattle.vocabularies.specs.Procs.{IsProcOf}
use Rattle.proc_summary.specs.declared.stop.Flow.{Flow}
use Rattle.proc_summary.specs.Claims.{FitsFlow, FlowHolds, HoldsIf}
use Rattle.report.specs.declared.verdict.Verdict.{Verdict}
use Rattle.report.specs.declared.verdict.Verdict.TheVariants.{Proved, Unproved, UnprovedLimit}

-- ---- what is asked

-- one for each procedure, which fits it
pub record AreFlows (program : Program) (flows : List Flow) : Type 0 where
  pub each : length flows ≡ length program.procs
  pub fit : (proc : ℕ) (p : Proc) (flow : Flow) → IsProcOf program proc p
      → slice_get flows proc ≡ Some flow → FitsFlow program p flow

-- and holds of its activations
abbrev pub FlowsHold : Program → List Flow → Type 0
FlowsHold program flows = (proc : ℕ) (flow : Flow) → slice_get flows proc ≡ Some flow
    → FlowHolds program proc flow

-- ---- what entries are like

-- from no columns to the globals and parameters, by at most 16 cases of at most 64 rows and 64
-- auxiliaries
pub record IsEntry (columns : ℕ) (f : Transition) : Type 0 where
  pub from : f.from ≡ 0
  pub to : f.to ≡ columns
  pub fits : IsTransition f.from f.to f.cases
  pub fitted : IsFitted f.cases

-- the formula is an entry over so many columns, where there is one
abbrev pub IsEntryIf : ℕ → Option Transition → Type 0
IsEntryIf columns None = Unit {0}
IsEntryIf columns (Some f) = IsEntry columns f

-- an entry or None for each procedure in the order of the text, where each entry fits its procedure
pub record AreEntries (program : Program) (entries : List (Option Transition)) : Type 0 where
  pub each : length entries ≡ length program.procs
  pub fit : (proc : ℕ) (p : Proc) (entry : Option Transition)
      → IsProcOf program proc p → slice_get entries proc ≡ Some entry
      → IsEntryIf (entry_width program p) entry

-- ---- what they say of executions

-- how the execution of a program begins
abbrev pub start_of_main : Program → Beginning
start_of_main program = record { proc = program.main; globals = initial_globals program; args = [] }

-- The entry holds of the globals and the arguments with which each activation of the procedure
-- begins that stands at the top of the stack in an execution from `main`, whether or not those
-- below it ever return.
abbrev pub EntryHolds : Program → ℕ → Option Transition → Type 0
EntryHolds program proc entry =
    (config : Config) (chain : IsChain program (start_of_main program) config)
    → chain.top.proc ≡ proc →
    HoldsIf entry [] (chain.top.globals ++ chain.top.args)

-- each entry holds of the numbers with which activations of its procedure begin
abbrev pub EntriesHold : Program → List (Option Transition) → Type 0
EntriesHold program entries =
    (proc : ℕ) (entry : Option Transition) → slice_get entries proc ≡ Some entry
    → EntryHolds program proc entry

-- ---- verdicts

-- the case has auxiliaries alone, and a post for each column that is told
abbrev pub FitsVerdict : ℕ → Verdict → Type 0
FitsVerdict shown Proved = Unit {0}
FitsVerdict shown (Unproved case point) = IsTrue (fits 0 shown case)
FitsVerdict shown (UnprovedLimit case limit) = IsTrue (fits 0 shown case)
