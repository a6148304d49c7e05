-- The chosen execution is one of the program's, and a trace says no more than it does.
use Rattle.std.specs.Prelude.{◌≡◌, ◌≤◌, ℕ, ℤ, Ok, List, [], ◌∷◌, length, take}
use Rattle.syntax_tree.specs.declared.program.Program.{Program}
use Rattle.syntax_tree.specs.WellFormed.{IsWellFormed}
use Rattle.execution.specs.declared.outcome.Event.{Event}
use Rattle.execution.specs.declared.outcome.Event.TheVariants as event
use Rattle.execution.specs.Machine.{Config}
use Rattle.execution.specs.Execution.{Begins, Fails, Runs, initial_globals}
use Rattle.replay.specs.declared.trace.TraceStop.TheVariants as stop
use Rattle.replay.specs.declared.trace.Trace.{Trace}
use Rattle.replay.specs.Chosen.{IsTrace, Reached, chosen}

-- an execution of so many steps from the beginning of `main`
pub record IsExecution (program : Program) (steps : ℕ) (last : Config) : Type 0 where
  pub first : Config
  pub begins : Begins program program.main (initial_globals program) [] first
  pub over : List Config
  pub as_many : length over ≡ steps
  pub runs : Runs program first over last

-- what the chosen execution of a well-formed program comes to is the end of an execution of as many
-- steps
abbrev pub ChosenIsExecution : Type 0
ChosenIsExecution = (program : Program) (values : List ℤ) (steps : ℕ) (here : Reached)
    → IsWellFormed program
    → chosen program values steps ≡ Ok here → IsExecution program steps here.config

-- the numbers that choices took, in order
abbrev pub numbers_taken : List Event → List ℤ
numbers_taken [] = []
numbers_taken (event.Any v ∷ rest) = v ∷ numbers_taken rest
numbers_taken (_ ∷ rest) = numbers_taken rest

-- they are the first values
abbrev pub ChoicesTakeValues : Type 0
ChoicesTakeValues = (program : Program) (values : List ℤ) (steps : ℕ) (here : Reached)
    → chosen program values steps ≡ Ok here
    → (numbers_taken here.events ≡ take here.taken values) × (here.taken ≤ length values)
    × (here.taken ≤ steps)

-- a trace that ends at a failed assertion shows that the program fails there
abbrev pub FailedStopFails : Type 0
FailedStopFails = (program : Program) (values : List ℤ) (turns : ℕ) (trace : Trace) (number : ℕ)
    → IsWellFormed program
    → IsTrace program values turns trace → trace.stop ≡ stop.Failed number → Fails program number

-- there is one trace
abbrev pub TracesAreDetermined : Type 0
TracesAreDetermined = (program : Program) (values : List ℤ) (turns : ℕ) (one other : Trace)
    → IsWellFormed program
    → IsTrace program values turns one → IsTrace program values turns other → one ≡ other
