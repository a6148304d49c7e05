-- The walks of the graph are the executions, over whole numbers without bounds.
use Rattle.std.specs.Prelude.{◌≡◌, ◌↔◌, ℕ, ℤ, pos, ◌-◌, Option, Some, List, ◌∷◌, length, take, slice_get, slice_index_or}
use Rattle.syntax_tree.specs.declared.program.Program.{Program}
use Rattle.syntax_tree.specs.Term.{Term}
use Rattle.syntax_tree.specs.Code.{Call, Check}
use Rattle.syntax_tree.specs.Value.{State}
use Rattle.execution.specs.Machine.{Item, Do}
use Rattle.execution.specs.Execution.{Returns}
use Rattle.flow_graph.specs.FlowGraph.{Arc, CheckPlace, body_of, exit_of, graph_of}
use Rattle.flow_graph.specs.Walks.{Stands, WalksTo}

-- the value of the last column
abbrev pub last_of : State → ℤ
last_of state = slice_index_or state (length state - 1) (pos 0)

-- A procedure returns exactly as walks lead to the exit: the globals there are those that it
-- leaves, and the last column has the value.
abbrev pub ReturnsAreWalks : Type 0
ReturnsAreWalks = (program : Program) (proc : ℕ) (globals args after : State) (value : ℤ)
    → Returns program proc globals args after value ↔ ((final : State)
    × WalksTo program proc globals args (exit_of (body_of (slice_get program.procs proc))) final
    × (take (length program.globals) final ≡ after) × (last_of final ≡ value))

-- An activation stands at an assertion in a state exactly as a walk leads to the assertion's node
-- in that state.
abbrev pub ChecksAreWalks : Type 0
ChecksAreWalks = (program : Program) (proc : ℕ) (globals args : State) (number : ℕ) (cond : Term)
    (final : State)
    → ((rest : List Item) × Stands program proc globals args (Do (Check number cond) ∷ rest) final)
    ↔ ((at : CheckPlace) × (k : ℕ)
    × (slice_get (graph_of program proc).checks k ≡ Some at) × (at.number ≡ number)
    × (at.cond ≡ cond)
    × WalksTo program proc globals args at.node final)

-- An activation stands at a call in a state exactly as a walk leads to the beginning of an edge
-- that is that call; whether the call returns does not matter.
abbrev pub CallsAreWalks : Type 0
CallsAreWalks = (program : Program) (proc : ℕ) (globals args : State) (callee : ℕ)
    (values : List Term) (into : Option ℕ) (final : State)
    → ((rest : List Item) × Stands program proc globals args (Do (Call callee values into) ∷ rest)
    final) ↔ ((way : Arc) × (k : ℕ)
    × (slice_get (graph_of program proc).arcs k ≡ Some way) × (way.act ≡ Call callee values into)
    × WalksTo program proc globals args way.from final)
