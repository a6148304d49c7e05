-- What the cells of the ways from a point say of the states there.
use Rattle.std.specs.Prelude.{◌≡◌, ℕ, Option, Some, List, length, slice_get}
use Rattle.path_expr.specs.declared.cell.Cell.{Cell}
use Rattle.syntax_tree.specs.declared.program.Proc.{Proc}
use Rattle.syntax_tree.specs.declared.program.Program.{Program}
use Rattle.syntax_tree.specs.Value.{State}
use Rattle.syntax_tree.specs.WellFormed.{width_of}
use Rattle.transition_formula.specs.Transition.{Transition}
use Rattle.leaf_cases.specs.Conditions.{KnownCalls}
use Rattle.checked_tree.specs.Law.{HoldsCell}
use Rattle.proc_summary.specs.Subject.{own_graph}
use Rattle.point_induction.specs.Points.{Arrival, Passage}
use Rattle.point_ways.specs.Ways.{arrival_node}

-- a passage of the procedure from a state to a state, where calls mean what known formulas say
abbrev pub PassageBetween : Program → Proc → List (Option Transition) → ℕ → State → ℕ → State
    → Type 0
PassageBetween program p known =
    Passage (KnownCalls known) (length program.globals) (own_graph p).arcs

-- an arrival at a head, likewise
abbrev pub ArrivalBetween : Program → Proc → List (Option Transition) → ℕ → State → ℕ → State
    → Type 0
ArrivalBetween program p known =
    Arrival (KnownCalls known) (length program.globals) (own_graph p).arcs

-- The cell of a node holds of each passage from the source to it, and the cell of an arrival of
-- each arrival at its head, from a state that has the columns of the procedure.
pub record WaysHold (program : Program) (p : Proc) (known : List (Option Transition)) (source : ℕ)
    (cells : List (Cell Transition)) : Type 0 where
  pub passed : (node : ℕ) (cell : Cell Transition) → slice_get cells node ≡ Some cell
      → (before after : State) → length before ≡ width_of program p
      → PassageBetween program p known source before node after → HoldsCell cell before after
  pub arrived : (head : ℕ) (cell : Cell Transition)
      → slice_get cells (arrival_node (own_graph p) head) ≡ Some cell
      → (before after : State) → length before ≡ width_of program p
      → ArrivalBetween program p known source before head after → HoldsCell cell before after
