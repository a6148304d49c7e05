-- The chosen execution of a program on values: it begins with `main`, every column of a new frame
-- that is no parameter is 0, and the n-th choice takes the n-th value. It is a function of the
-- program, the values and the number of steps.
use Rattle.std.specs.Prelude.{◌≡◌, ◌↔◌, ◌≤◌, ◌+◌, ℕ, zero, suc, ℤ, Option, None, Some, Result, Ok, List, [], ◌∷◌, ◌++◌, slice_get}
use Rattle.items.specs.Gives.{◌>>=◌}
use Rattle.syntax_tree.specs.declared.program.Program.{Program}
use Rattle.execution.specs.declared.outcome.Event.{Event}
use Rattle.execution.specs.declared.outcome.Event.TheVariants as event
use Rattle.execution.specs.declared.outcome.Stop.{Stop}
use Rattle.execution.specs.declared.outcome.Stop.TheVariants as why
use Rattle.execution.specs.Machine.{Config}
use Rattle.execution.specs.Chosen.{Stepped, chosen_start, chosen_step}
use Rattle.execution.specs.Stops.{StopsAt}
use Rattle.replay.specs.declared.trace.TraceStop.{TraceStop}
use Rattle.replay.specs.declared.trace.TraceStop.TheVariants as stop
use Rattle.replay.specs.declared.trace.Trace.{Trace}

-- a configuration, how many values were taken on the way there, and what the steps showed
pub record Reached : Type 0 where
  pub config : Config
  pub taken : ℕ
  pub events : List Event

-- how many values are taken behind a step that shows this: one more behind a choice
abbrev pub count_after : Option Event → ℕ → ℕ
count_after (Some (event.Any v)) taken = taken + 1
count_after _ taken = taken

-- what the steps have shown in order, this one last; a step may show nothing
abbrev pub events_after : Option Event → List Event → List Event
events_after None events = events
events_after (Some shown) events = events ++ shown ∷ []

-- what is reached behind a step
abbrev pub further : Reached → Stepped → Reached
further here stepped = record {
  config = stepped.next;
  taken = count_after stepped.event here.taken;
  events = events_after stepped.event here.events;
}

-- one step more
abbrev pub step_on : Program → List ℤ → Reached → Result Reached Stop
step_on program values here =
    chosen_step program (slice_get values here.taken) here.config
    >>= λ stepped. Ok (further here stepped)

-- what the chosen execution comes to in so many steps, or why it has fewer
abbrev pub chosen : Program → List ℤ → ℕ → Result Reached Stop
chosen program values zero = Ok (record { config = chosen_start program; taken = 0; events = [] })
chosen program values (suc n) = chosen program values n >>= step_on program values

-- why the execution ends in so many steps, where no more than `turns` are made
abbrev pub EndsBy : List ℤ → ℕ → ℕ → Reached → TraceStop → Type 0
EndsBy values turns steps here (stop.Done v) = StopsAt (slice_get values here.taken) here.config
    (why.Done v)
EndsBy values turns steps here (stop.Failed n) = StopsAt (slice_get values here.taken) here.config
    (why.Failed n)
EndsBy values turns steps here stop.Guard = StopsAt (slice_get values here.taken) here.config
    why.Guard
EndsBy values turns steps here stop.Zero = StopsAt (slice_get values here.taken) here.config
    why.Zero
EndsBy values turns steps here stop.Dry = StopsAt (slice_get values here.taken) here.config why.Dry
EndsBy values turns steps here (stop.Wide left right op) =
    StopsAt (slice_get values here.taken) here.config (why.Wide (record {
      left = left;
      right = right;
      op = op;
    }))
EndsBy values turns steps here stop.Spent =
    (steps ≡ turns) × ((cause : Stop) → StopsAt (slice_get values here.taken) here.config cause → ⊥)

-- The trace of the chosen execution: what its steps showed, and each stop exactly for its cause.
pub record IsTrace (program : Program) (values : List ℤ) (turns : ℕ) (trace : Trace) : Type 0 where
  pub within : trace.steps ≤ turns
  pub reached : Reached
  pub is : chosen program values trace.steps ≡ Ok reached
  pub events : trace.events ≡ reached.events
  pub stops : (cause : TraceStop) → (trace.stop ≡ cause)
      ↔ EndsBy values turns trace.steps reached cause
