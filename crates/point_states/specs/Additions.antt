-- What is known of the states of points that are put behind others.
use Rattle.std.specs.Prelude.{◌≡◌, ◌<◌, ℕ, List, ◌++◌, Option, Some, true, slice_get}
use Rattle.std.specs.List.{AllByRecursion}
use Rattle.syntax_tree.specs.declared.program.Proc.{Proc}
use Rattle.syntax_tree.specs.declared.program.Program.{Program}
use Rattle.syntax_tree.specs.Value.{State}
use Rattle.syntax_tree.specs.WellFormed.{IsWellFormed, width_of}
use Rattle.execution.specs.Machine.{Config}
use Rattle.flow_graph.specs.Stack.{IsChain}
use Rattle.flow_graph.specs.Walks.{WalksTo}
use Rattle.transition_formula.specs.Transition.{Transition}
use Rattle.vocabularies.specs.Ends.{entry_width}
use Rattle.vocabularies.specs.Procs.{IsProcOf}
use Rattle.proc_summary.specs.declared.stop.Flow.{Flow}
use Rattle.proc_summary.specs.declared.stop.NodeFormula.{NodeFormula}
use Rattle.proc_summary.specs.Claims.{FitsStop, StopHolds}
use Rattle.proc_summary.specs.Subject.{own_graph}
use Rattle.context.specs.Claims.{EntryHolds, IsEntryIf, start_of_main}
use Rattle.point_induction.specs.Points.{is_point}
use Rattle.point_rounds.specs.declared.round.PointState.{PointState}
use Rattle.point_rounds.specs.Closed.{ArePointStates, HasState}

-- ---- what is asked

-- the node is a point of the procedure, and the formula from its entry to there fits
pub record IsPointStop (program : Program) (p : Proc) (stop : NodeFormula) : Type 0 where
  pub node : stop.node < (own_graph p).nodes
  pub point : is_point (own_graph p).arcs stop.node ≡ true
  pub fits : FitsStop (width_of program p) stop

-- the entry of the procedure of a number in a well-formed program, and formulas at points of it
pub record ArePointsOf (program : Program) (proc : ℕ) (begun : Option Transition)
    (stops : List NodeFormula) : Type 0 where
  pub formed : IsWellFormed program
  pub p : Proc
  pub is : IsProcOf program proc p
  pub entry : IsEntryIf (entry_width program p) begun
  pub each : AllByRecursion (IsPointStop program p) stops

-- ---- what is told of what is made

-- Where the entry of the procedure and the formula at the node hold, a state among these holds of
-- each activation on top of a stack from `main` that comes to the node.
pub record TellsStop (program : Program) (proc : ℕ) (begun : Option Transition)
    (states : List PointState) (stop : NodeFormula) : Type 0 where
  pub holds : EntryHolds program proc begun → StopHolds program proc stop
      → (config : Config) (chain : IsChain program (start_of_main program) config)
      → chain.top.proc ≡ proc → (after : State)
      → WalksTo program proc chain.top.globals chain.top.args stop.node after
      → HasState states proc stop.node (after ++ (chain.top.globals ++ chain.top.args))

-- that is told of each point of the procedure, by its entry and its flow
pub record TellsProcedure (program : Program) (entries : List (Option Transition))
    (flows : List Flow) (states : List PointState) (proc : ℕ) : Type 0 where
  pub tells : (begun : Option Transition) (flow : Flow) → slice_get entries proc ≡ Some begun
      → slice_get flows proc ≡ Some flow
      → AllByRecursion (TellsStop program proc begun states) flow.points

-- states of points are put behind those that are made, and tell so of each of these
pub record AddsStates {A : Type 0} (program : Program) (Tells : List PointState → A → Type 0)
    (of : List A) (made all : List PointState) : Type 0 where
  pub more : List PointState
  pub is : all ≡ made ++ more
  pub fits : ArePointStates program more
  pub tells : AllByRecursion (Tells more) of
