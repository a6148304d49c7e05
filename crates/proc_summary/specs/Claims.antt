-- What holds of a flow, and of the nodes of a graph.
use Rattle.std.specs.Prelude.{◌≡◌, ℕ, All, Option, None, Some, List, ◌++◌, length, map}
use Rattle.std.specs.List.{AllByRecursion, slice_get}
use Rattle.path_expr.specs.declared.cell.Cell.{Cell}
use Rattle.syntax_tree.specs.declared.program.Proc.{Proc}
use Rattle.syntax_tree.specs.declared.program.Program.{Program}
use Rattle.syntax_tree.specs.Code.{code_of}
use Rattle.syntax_tree.specs.Value.{State}
use Rattle.syntax_tree.specs.WellFormed.{width_of}
use Rattle.transition_formula.specs.Meaning.{Holds}
use Rattle.transition_formula.specs.Transition.{Transition, IsTransition, IsFitted}
use Rattle.flow_graph.specs.FlowGraph.{exit_of}
use Rattle.flow_graph.specs.Walks.{Stride, Walks, WalksTo}
use Rattle.point_induction.specs.Points.{points_of}
use Rattle.leaf_cases.specs.Conditions.{KnownCalls}
use Rattle.leaf_cases.specs.Summaries.{KnowsCallee}
use Rattle.checked_tree.specs.Law.{HoldsCell}
use Rattle.proc_summary.specs.declared.stop.Flow.{Flow}
use Rattle.proc_summary.specs.declared.stop.NodeFormula.{NodeFormula}
use Rattle.proc_summary.specs.Subject.{own_graph, call_nodes, check_nodes}

-- ---- what is asked

-- the formula of each procedure that is called is known
abbrev pub KnowsCallees : Proc → List (Option Transition) → Type 0
KnowsCallees p known = AllByRecursion (λ way. KnowsCallee known way.act) (own_graph p).arcs

-- ---- what a flow is like

-- between states of so many columns, by at most 16 cases of at most 64 rows and 64 auxiliaries
pub record IsBetweenStates (columns : ℕ) (f : Transition) : Type 0 where
  pub from : f.from ≡ columns
  pub to : f.to ≡ columns
  pub fits : IsTransition f.from f.to f.cases
  pub fitted : IsFitted f.cases

-- a formula that may be missing is between states of so many columns
abbrev pub FitsIf : ℕ → Option Transition → Type 0
FitsIf columns None = Unit {0}
FitsIf columns (Some f) = IsBetweenStates columns f

-- the formula of a node, which may be missing, is between states of so many columns
abbrev pub FitsStop : ℕ → NodeFormula → Type 0
FitsStop columns stop = FitsIf columns stop.formula

-- the nodes of formulas, in their order
abbrev pub nodes_of : List NodeFormula → List ℕ
nodes_of stops = map (λ stop. stop.node) stops

-- it has the nodes of the procedure's exit, assertions, calls and points, in the order of its graph
pub record FitsFlow (program : Program) (p : Proc) (flow : Flow) : Type 0 where
  pub exit_is : flow.exit.node ≡ exit_of (code_of p.body)
  pub checks_are : nodes_of flow.checks ≡ check_nodes (own_graph p).checks
  pub calls_are : nodes_of flow.calls ≡ call_nodes (own_graph p).arcs
  pub points_are : nodes_of flow.points ≡ points_of (own_graph p)
  pub exit : FitsStop (width_of program p) flow.exit
  pub checks : All (FitsStop (width_of program p)) flow.checks
  pub calls : All (FitsStop (width_of program p)) flow.calls
  pub points : All (FitsStop (width_of program p)) flow.points

-- ---- what it says of executions

-- a formula that may be missing holds of two states; none holds of nothing
abbrev pub HoldsIf : Option Transition → State → State → Type 0
HoldsIf None before after = ⊥
HoldsIf (Some f) before after = Holds f before after

-- it holds of each activation that comes to the node, whatever was in its other columns at the
-- entry
abbrev pub StopHolds : Program → ℕ → NodeFormula → Type 0
StopHolds program proc stop =
    (globals args final : State) → (walk : WalksTo program proc globals args stop.node final) →
    HoldsIf stop.formula (globals ++ (args ++ walk.others)) final

-- each formula of a flow holds of the activations that come to its node
pub record FlowHolds (program : Program) (proc : ℕ) (flow : Flow) : Type 0 where
  pub exit : StopHolds program proc flow.exit
  pub checks : All (StopHolds program proc) flow.checks
  pub calls : All (StopHolds program proc) flow.calls
  pub points : All (StopHolds program proc) flow.points

-- The cell of each node holds of each walk from the source to it, from a state that has the columns
-- of the procedure, where calls mean what the known formulas say.
abbrev pub HoldsOfWalks : Program → Proc → List (Option Transition) → ℕ → List (Cell Transition)
    → Type 0
HoldsOfWalks program p known source cells =
    (node : ℕ) (cell : Cell Transition) → slice_get cells node ≡ Some cell
    → (path : List Stride) (before after : State) →
    length before ≡ width_of program p →
    Walks (KnownCalls known) (length program.globals) (own_graph p).arcs source before path node
    after →
    HoldsCell cell before after
