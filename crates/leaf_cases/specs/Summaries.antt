-- What it is for formulas of procedures to be met, and that calls which return are then related by
-- them.
use Rattle.std.specs.Prelude.{◌≡◌, ℕ, ℤ, Bool, Option, Some, List, [], ◌∷◌, ◌++◌, length, slice_get, if◌then◌else◌}
use Rattle.syntax_tree.specs.declared.program.Proc.{Proc}
use Rattle.syntax_tree.specs.declared.program.Program.{Program}
use Rattle.syntax_tree.specs.Code.{Statement, Call}
use Rattle.syntax_tree.specs.Value.{State}
use Rattle.execution.specs.Execution.{Returns}
use Rattle.flow_graph.specs.Walks.{EdgeRelates}
use Rattle.transition_formula.specs.Transition.{Transition}
use Rattle.transition_formula.specs.Meaning.{Holds}
use Rattle.leaf_cases.specs.Conditions.{AreKnown, KnownCalls}

-- the globals, and behind them a value where it is returned
abbrev pub if_returned : Bool → List ℤ → ℤ → List ℤ
if_returned returns after value = if returns then after ++ value ∷ [] else after

-- what the exit of a procedure tells: the globals, and the returned value if there is one
abbrev pub exit_values : Proc → List ℤ → ℤ → List ℤ
exit_values proc after value = if_returned proc.returns after value

-- the summary of a procedure holds of each execution of it that returns
abbrev pub SummaryIsMet : Program → ℕ → Transition → Type 0
SummaryIsMet program number formula = (proc : Proc) → slice_get program.procs number ≡ Some proc
    → (globals args after : List ℤ) (value : ℤ)
    → Returns program number globals args after value
    → Holds formula (globals ++ args) (exit_values proc after value)

-- each known formula is one that is met
abbrev pub AreMet : Program → List (Option Transition) → Type 0
AreMet program known = (number : ℕ) (formula : Transition)
    → slice_get known number ≡ Some (Some formula) → SummaryIsMet program number formula

-- the formula of the procedure that a call calls is known; every other statement calls none
abbrev pub KnowsCallee : List (Option Transition) → Statement → Type 0
KnowsCallee known (Call proc args into) = (formula : Transition)
    × (slice_get known proc ≡ Some (Some formula))
KnowsCallee known _ = Unit {0}

-- Where the known formulas are met, a call that returns is a known call, if the formula of its
-- procedure is known.
abbrev pub MetCallsAreKnown : Type 0
MetCallsAreKnown = (program : Program) (known : List (Option Transition)) → AreKnown program known
    → AreMet program known
    → (proc : ℕ) (formula : Transition) → slice_get known proc ≡ Some (Some formula)
    → (globals args after : State) (value : ℤ)
    → Returns program proc globals args after value → KnownCalls known proc globals args after value

-- So an edge that relates two states by executions relates them by the known formulas, where these
-- are met.
abbrev pub MetEdgesAreKnown : Type 0
MetEdgesAreKnown = (program : Program) (known : List (Option Transition)) → AreKnown program known
    → AreMet program known
    → (statement : Statement) → KnowsCallee known statement → (before after : State)
    → EdgeRelates (Returns program) (length program.globals) statement before after
    → EdgeRelates (KnownCalls known) (length program.globals) statement before after
