-- What is asked of states and ways, what steps are like, and what both say of executions.
use Rattle.std.specs.Prelude.{◌≡◌, ◌≤◌, ◌<◌, ℕ, ◌+◌, All, List, [], ◌++◌, Option, None, Some, length, slice_get, take}
use Rattle.path_expr.specs.declared.cell.Cell.{Cell}
use Rattle.syntax_tree.specs.declared.program.Proc.{Proc}
use Rattle.syntax_tree.specs.declared.program.Program.{Program}
use Rattle.syntax_tree.specs.Code.{Call, code_of}
use Rattle.syntax_tree.specs.Term.{Term}
use Rattle.syntax_tree.specs.Value.{State}
use Rattle.syntax_tree.specs.WellFormed.{IsWellFormed, width_of}
use Rattle.execution.specs.Machine.{Config}
use Rattle.execution.specs.Step.{values_of}
use Rattle.flow_graph.specs.FlowGraph.{Arc, CheckPlace, exit_of}
use Rattle.flow_graph.specs.Laws.{last_of}
use Rattle.flow_graph.specs.Plain.{plain}
use Rattle.flow_graph.specs.Stack.{IsChain}
use Rattle.flow_graph.specs.Walks.{WalksTo}
use Rattle.transition_formula.specs.Meaning.{Holds}
use Rattle.transition_formula.specs.Transition.{Transition, IsTransition}
use Rattle.leaf_cases.specs.Conditions.{KnownCalls, columns_at}
use Rattle.leaf_cases.specs.Summaries.{exit_values}
use Rattle.vocabularies.specs.Ends.{entry_width, exit_width}
use Rattle.proc_summary.specs.Claims.{HoldsIf}
use Rattle.proc_summary.specs.Flow.{formula_at}
use Rattle.proc_summary.specs.Parts.{IsGraphOf}
use Rattle.proc_summary.specs.Subject.{own_graph}
use Rattle.context.specs.Claims.{start_of_main}
use Rattle.point_induction.specs.Points.{Arrival, Passage, heads_of}
use Rattle.point_steps.specs.declared.source.StepSource.{StepSource}
use Rattle.point_steps.specs.declared.target.PointStep.{PointStep}
use Rattle.point_steps.specs.declared.target.Target.{Target}
use Rattle.point_steps.specs.declared.target.Target.TheVariants.{Head, Entry, Exit, Check}

-- ---- states

-- how many auxiliaries a case of a state may have: those of a fitted one, and one for each column
-- of an entry
abbrev pub most_state_auxiliaries : ℕ
most_state_auxiliaries = 88

-- from no columns to so many, by cases of at most 88 auxiliaries each
pub record IsState (columns : ℕ) (f : Transition) : Type 0 where
  pub from : f.from ≡ 0
  pub to : f.to ≡ columns
  pub fits : IsTransition f.from f.to f.cases
  pub few : All (λ case. case.aux ≤ most_state_auxiliaries) f.cases

-- Where an activation that stands at the top of the stack in an execution from `main` comes to the
-- node, the formula holds of its columns there, and behind them the globals and the arguments with
-- which it began.
abbrev pub StateHolds : Program → (proc node : ℕ) → Transition → Type 0
StateHolds program proc node f =
    (config : Config) (chain : IsChain program (start_of_main program) config)
    → chain.top.proc ≡ proc → (after : State)
    → WalksTo program proc chain.top.globals chain.top.args node after
    → Holds f [] (after ++ (chain.top.globals ++ chain.top.args))

-- ---- ways

-- how many auxiliaries a case of a way may have
abbrev pub most_way_auxiliaries : ℕ
most_way_auxiliaries = 64

-- between states of so many columns, by cases of at most 64 auxiliaries each
pub record IsWayFormula (columns : ℕ) (f : Transition) : Type 0 where
  pub from : f.from ≡ columns
  pub to : f.to ≡ columns
  pub fits : IsTransition f.from f.to f.cases
  pub few : All (λ case. case.aux ≤ most_way_auxiliaries) f.cases

-- each formula of the cells is one
pub record AreWayCells (columns : ℕ) (cells : List (Cell Transition)) : Type 0 where
  pub each : (node : ℕ) (f : Transition) → formula_at columns cells node ≡ Some f
      → IsWayFormula columns f

-- The cell of a node holds of each passage from the point to it, and the cell of the arrival at the
-- n-th head, which stands behind those of nodes, of each arrival at that head, from a state that
-- has the columns of the procedure, where calls mean what the known formulas say.
pub record WaysCover (program : Program) (p : Proc) (known : List (Option Transition)) (point : ℕ)
    (cells : List (Cell Transition)) : Type 0 where
  pub passed : (node : ℕ) (before after : State) → length before ≡ width_of program p
      → Passage (KnownCalls known) (length program.globals) (own_graph p).arcs point before node
      after → HoldsIf (formula_at (width_of program p) cells node) before after
  pub arrived : (n head : ℕ) (before after : State) → length before ≡ width_of program p
      → slice_get (heads_of (own_graph p)) n ≡ Some head
      → Arrival (KnownCalls known) (length program.globals) (own_graph p).arcs point before head
      after → HoldsIf (formula_at (width_of program p) cells ((own_graph p).nodes + n)) before after

-- a point of a procedure of the program with the procedure's graph and heads, and cells that are
-- ways
pub record IsStepSource (source : StepSource) : Type 0 where
  pub formed : IsWellFormed source.program.now
  pub procedure : source.proc < length source.program.now.procs
  pub graph : IsGraphOf source.program.now source.proc source.graph.now
  pub heads : source.heads.now ≡ heads_of (plain source.graph.now)
  pub ways : AreWayCells (columns_at source.program.now source.proc) source.cells.now

-- ---- steps

-- how many columns the entry of a procedure has; 0 where there is none
abbrev pub entry_columns : Program → Option Proc → ℕ
entry_columns program None = 0
entry_columns program (Some callee) = entry_width program callee

-- how many columns a target of a step in a procedure has
abbrev pub target_columns : Program → Proc → Target → ℕ
target_columns program p (Head node) = width_of program p
target_columns program p (Entry callee) = entry_columns program (slice_get program.procs callee)
target_columns program p Exit = entry_width program p + exit_width program p
target_columns program p (Check number) = width_of program p

-- from no columns to those of the point and then those of the target, by one case or more
pub record IsPointStep (program : Program) (p : Proc) (step : PointStep) : Type 0 where
  pub from : step.formula.from ≡ 0
  pub to : step.formula.to ≡ width_of program p + target_columns program p step.target
  pub fits : IsTransition step.formula.from step.formula.to step.formula.cases
  pub some : 1 ≤ length step.formula.cases

-- each step is one
abbrev pub ArePointSteps : Program → Proc → List PointStep → Type 0
ArePointSteps program p steps = All (IsPointStep program p) steps

-- one of the steps leads to the target and holds of the columns of the point and of the target
pub record HasStep (steps : List PointStep) (target : Target) (columns : State) : Type 0 where
  pub place : ℕ
  pub step : PointStep
  pub is : slice_get steps place ≡ Some step
  pub leads : step.target ≡ target
  pub holds : Holds step.formula [] columns

-- the columns of a point and those of the entry as they were at the entry, of which the state holds
pub record IsStateAt (program : Program) (p : Proc) (state : Transition)
    (before begun : State) : Type 0 where
  pub width : length before ≡ width_of program p
  pub entry : length begun ≡ entry_width program p
  pub holds : Holds state [] (before ++ begun)

-- Where the state holds at a point, some step holds of each arrival at a head, of each call that a
-- passage leads to, of each passage to the exit but of `main`, and of each passage to a check; calls
-- mean what the known formulas say.
pub record StepsCover (program : Program) (proc : ℕ) (p : Proc) (known : List (Option Transition))
    (point : ℕ) (state : Transition) (steps : List PointStep) : Type 0 where
  pub heads : (before begun after : State) (head : ℕ) → IsStateAt program p state before begun
      → Arrival (KnownCalls known) (length program.globals) (own_graph p).arcs point before head
      after → HasStep steps (Head head) (before ++ after)
  pub entries : (before begun after values : State) (edge : ℕ) (way : Arc) (callee : ℕ)
      (terms : List Term) (into : Option ℕ) → IsStateAt program p state before begun
      → slice_get (own_graph p).arcs edge ≡ Some way → way.act ≡ Call callee terms into
      → Passage (KnownCalls known) (length program.globals) (own_graph p).arcs point before way.from
      after → values_of terms after ≡ Some values
      → HasStep steps (Entry callee) (before ++ (take (length program.globals) after ++ values))
  pub exits : (before begun after : State) → IsStateAt program p state before begun
      → (proc ≡ program.main → ⊥)
      → Passage (KnownCalls known) (length program.globals) (own_graph p).arcs point before
      (exit_of (code_of p.body)) after
      → HasStep steps Exit (before ++ (begun ++ exit_values p (take (length program.globals) after)
      (last_of after)))
  pub checks : (before begun after : State) (number : ℕ) (check : CheckPlace)
      → IsStateAt program p state before begun
      → slice_get (own_graph p).checks number ≡ Some check
      → Passage (KnownCalls known) (length program.globals) (own_graph p).arcs point before
      check.node after → HasStep steps (Check number) (before ++ after)
