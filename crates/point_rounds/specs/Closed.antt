-- Tables that steps keep, and what is asked of states, of known formulas and of steps.
use Rattle.std.specs.Prelude.{◌≡◌, ◌<◌, ◌+◌, ℕ, true, Option, Some, List, [], ◌++◌, length, slice_get}
use Rattle.std.specs.List.{AllByRecursion}
use Rattle.syntax_tree.specs.declared.program.Proc.{Proc}
use Rattle.syntax_tree.specs.declared.program.Program.{Program}
use Rattle.syntax_tree.specs.Value.{State}
use Rattle.syntax_tree.specs.WellFormed.{width_of}
use Rattle.transition_formula.specs.Meaning.{Holds}
use Rattle.transition_formula.specs.Transition.{Transition}
use Rattle.vocabularies.specs.Ends.{entry_width}
use Rattle.vocabularies.specs.Procs.{IsProcOf}
use Rattle.point_induction.specs.Points.{is_point}
use Rattle.leaf_cases.specs.Conditions.{AreKnown, columns_at}
use Rattle.leaf_cases.specs.Summaries.{AreMet}
use Rattle.proc_summary.specs.Claims.{KnowsCallees}
use Rattle.proc_summary.specs.Subject.{own_graph}
use Rattle.point_rows.specs.Exits.{formulas_with_exits}
use Rattle.point_steps.specs.declared.target.PointStep.{PointStep}
use Rattle.point_steps.specs.declared.target.Target.{Target}
use Rattle.point_steps.specs.declared.target.Target.TheVariants as target
use Rattle.point_steps.specs.Claims.{IsPointStep, IsState, StepsCover}
use Rattle.point_rounds.specs.declared.round.PointState.{PointState}
use Rattle.point_rounds.specs.declared.round.StepFrom.{StepFrom}
use Rattle.point_rounds.specs.declared.table.PointTable.{PointTable}
use Rattle.point_rounds.specs.Steps.{StepGoal, IsAtPoint, KeepsRows, ToEntry, ToExit, ToHead}

-- ---- steps as a relation

-- the target of a step to a goal
abbrev pub target_of : StepGoal → Target
target_of (ToHead node) = target.Head node
target_of (ToEntry callee) = target.Entry callee
target_of ToExit = target.Exit

-- one of the steps leads from the point to the goal, and holds of the numbers at both
pub record IsStepFrom (program : Program) (steps : List StepFrom) (proc node : ℕ) (goal : StepGoal)
    (before after : State) : Type 0 where
  pub width : length before ≡ columns_at program proc
  pub place : ℕ
  pub from : StepFrom
  pub is : slice_get steps place ≡ Some from
  pub proc_is : from.proc ≡ proc
  pub node_is : from.node ≡ node
  pub leads : from.step.target ≡ target_of goal
  pub holds : Holds from.step.formula [] (before ++ after)

-- the steps keep the rows of the table
abbrev pub AreKeptBy : Program → List StepFrom → PointTable → Type 0
AreKeptBy program steps table = KeepsRows program table (IsStepFrom program steps)

-- ---- what is asked of states, of known formulas and of steps

-- the state of a point of a procedure of the program, over the columns of the procedure and then
-- those of its entry
pub record IsPointState (program : Program) (state : PointState) : Type 0 where
  pub p : Proc
  pub is : IsProcOf program state.proc p
  pub node : state.node < (own_graph p).nodes
  pub point : is_point (own_graph p).arcs state.node ≡ true
  pub fits : IsState (width_of program p + entry_width program p) state.formula

-- each of the states is one
abbrev pub ArePointStates : Program → List PointState → Type 0
ArePointStates program states = AllByRecursion (IsPointState program) states

-- the step of a node of a procedure of the program
pub record IsStepOf (program : Program) (from : StepFrom) : Type 0 where
  pub p : Proc
  pub is : IsProcOf program from.proc p
  pub node : from.node < (own_graph p).nodes
  pub fits : IsPointStep program p from.step

-- each step is one
abbrev pub AreStepsFrom : Program → List StepFrom → Type 0
AreStepsFrom program = AllByRecursion (IsStepOf program)

-- a state of the point holds of these numbers
pub record HasState (states : List PointState) (proc node : ℕ) (numbers : State) : Type 0 where
  pub place : ℕ
  pub state : PointState
  pub is : slice_get states place ≡ Some state
  pub proc_is : state.proc ≡ proc
  pub node_is : state.node ≡ node
  pub holds : Holds state.formula [] numbers

-- Where an activation on top of a stack from `main` is at a point, a state of the point holds of
-- the numbers there, and behind them of the globals and arguments with which it began.
abbrev pub StatesHold : Program → List PointState → Type 0
StatesHold program states = (proc node : ℕ) (globals args before : State)
    → IsAtPoint program proc node globals args before
    → HasState states proc node (before ++ (globals ++ args))

-- the formulas of procedures are met, and known of each procedure that is called
pub record TellCalls (program : Program) (known : List (Option Transition)) : Type 0 where
  pub fits : AreKnown program known
  pub met : AreMet program known
  pub callees : (proc : ℕ) (p : Proc) → IsProcOf program proc p → KnowsCallees p known

-- the steps from a point of that state are among these, and cover what happens from there
pub record CoversState (program : Program) (known : List (Option Transition))
    (steps : List StepFrom) (state : PointState) : Type 0 where
  pub p : Proc
  pub is : IsProcOf program state.proc p
  pub own : List PointStep
  pub cover : StepsCover program state.proc p known state.node state.formula own
  pub among : (place : ℕ) (step : PointStep) → slice_get own place ≡ Some step
      → (at : ℕ) × (slice_get steps at ≡ Some (record {
        proc = state.proc;
        node = state.node;
        step = step;
      }))

-- the steps from all points of states cover what happens, where calls are read with the rows of the
-- table at exits
abbrev pub CoverTable : Program → List (Option Transition) → List PointState → List StepFrom
    → PointTable → Type 0
CoverTable program known states steps table =
    AllByRecursion (CoversState program (formulas_with_exits known table.exits) steps) states
