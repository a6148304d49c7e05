-- Induction from point to point: what is said of activations at their points and of those that
-- returned, and is kept by every passage, is true in every execution from `main`.
use Rattle.std.specs.Prelude.{◌≡◌, ◌∷◌, ◌+◌, ℕ, ℤ, Option, Some, true, List, [], ◌++◌, length, slice_get, take}
use Rattle.std.specs.List.{AllByRecursion}
use Rattle.syntax_tree.specs.declared.program.Proc.{Proc}
use Rattle.syntax_tree.specs.declared.program.Program.{Program}
use Rattle.syntax_tree.specs.Code.{Call}
use Rattle.syntax_tree.specs.Term.{Term}
use Rattle.syntax_tree.specs.Value.{State}
use Rattle.execution.specs.Execution.{Returns, initial_globals}
use Rattle.execution.specs.Machine.{Config}
use Rattle.execution.specs.Step.{IsTrueIn, values_of}
use Rattle.flow_graph.specs.FlowGraph.{Arc, body_of, exit_of, graph_of}
use Rattle.flow_graph.specs.Laws.{last_of}
use Rattle.flow_graph.specs.Stack.{Beginning, IsChain}
use Rattle.flow_graph.specs.Walks.{WalksTo}
use Rattle.point_induction.specs.Points.{Arrival, Passage, is_point}

-- What is said: of an activation that began with these globals and arguments and is at a point in a
-- state, and of one that began so and returned with globals and a value.
pub record Sayings : Type 1 where
  pub at : (proc node : ℕ) (globals args state : State) → Type 0
  pub returned : (proc : ℕ) (globals args left : State) (value : ℤ) → Type 0

-- the edges of the graph of a procedure
abbrev pub arcs_of : Program → ℕ → List Arc
arcs_of program proc = (graph_of program proc).arcs

-- A procedure begins with these globals and arguments in this state: any numbers stand in its other
-- columns.
pub record IsFirstState (program : Program) (proc : ℕ) (globals args state : State) : Type 0 where
  pub width : length globals ≡ length program.globals
  pub callee : Proc
  pub is : slice_get program.procs proc ≡ Some callee
  pub params : length args ≡ callee.params
  pub others : List ℤ
  pub columns : length args + length others ≡ length callee.columns + 1
  pub state_is : state ≡ globals ++ (args ++ others)

-- it is said of each state in which the procedure begins with these globals and arguments
abbrev pub IsSaidOfFirst : Program → Sayings → ℕ → State → State → Type 0
IsSaidOfFirst program say proc globals args = (state : State)
    → IsFirstState program proc globals args state → say.at proc 0 globals args state

-- a call that returns, of which that is said
pub record ReturnsSaid (program : Program) (say : Sayings) (proc : ℕ) (globals args left : State)
    (value : ℤ) : Type 0 where
  pub returns : Returns program proc globals args left value
  pub said : say.returned proc globals args left value

-- A passage of an activation of which something is said at a point, in which of each call that
-- returned what is said is true.
pub record PassageSaid (program : Program) (say : Sayings) (proc : ℕ) (globals args : State)
    (to : ℕ) (after : State) : Type 0 where
  pub point : ℕ
  pub before : State
  pub is : is_point (arcs_of program proc) point ≡ true
  pub said : say.at proc point globals args before
  pub passage : Passage (ReturnsSaid program say) (length program.globals) (arcs_of program proc)
      point before to after

-- the same with an edge to a head behind it
pub record ArrivalSaid (program : Program) (say : Sayings) (proc : ℕ) (globals args : State)
    (head : ℕ) (after : State) : Type 0 where
  pub point : ℕ
  pub before : State
  pub is : is_point (arcs_of program proc) point ≡ true
  pub said : say.at proc point globals args before
  pub arrival : Arrival (ReturnsSaid program say) (length program.globals) (arcs_of program proc)
      point before head after

-- What is said is kept: it is said as `main` begins, and of a point at which an activation arrives
-- from one of which it is said, of a procedure that is called behind such a passage, and of what is
-- returned at the end of one.
pub record AreKept (program : Program) (say : Sayings) : Type 0 where
  pub main : IsSaidOfFirst program say program.main (initial_globals program) []
  pub heads : (proc head : ℕ) (globals args after : State)
      → ArrivalSaid program say proc globals args head after → say.at proc head globals args after
  pub entries : (proc : ℕ) (globals args after : State) (edge : ℕ) (way : Arc)
      → slice_get (arcs_of program proc) edge ≡ Some way
      → PassageSaid program say proc globals args way.from after
      → (callee : ℕ) (terms : List Term) (into : Option ℕ) (values : State)
      → way.act ≡ Call callee terms into → values_of terms after ≡ Some values
      → IsSaidOfFirst program say callee (take (length program.globals) after) values
  pub exits : (proc : ℕ) (globals args after : State)
      → PassageSaid program say proc globals args
      (exit_of (body_of (slice_get program.procs proc))) after
      → say.returned proc globals args (take (length program.globals) after) (last_of after)

-- how the execution of a program begins
abbrev pub start_of : Program → Beginning
start_of program = record { proc = program.main; globals = initial_globals program; args = [] }

-- each activation on a stack from `main` began with globals and arguments of which that is said
abbrev pub AreBegun : Program → Sayings → Type 0
AreBegun program say = (config : Config) (chain : IsChain program (start_of program) config)
    → IsSaidOfFirst program say chain.top.proc chain.top.globals chain.top.args

-- Where an activation on a stack from `main` comes to a node, what is said is true of a point from
-- which a passage leads there.
abbrev pub ArePassed : Program → Sayings → Type 0
ArePassed program say = (config : Config) (chain : IsChain program (start_of program) config)
    → (node : ℕ) (after : State)
    → WalksTo program chain.top.proc chain.top.globals chain.top.args node after
    → PassageSaid program say chain.top.proc chain.top.globals chain.top.args node after

-- Where it comes to a point, that is said of the state there.
abbrev pub AreReached : Program → Sayings → Type 0
AreReached program say = (config : Config) (chain : IsChain program (start_of program) config)
    → (node : ℕ) (after : State) → is_point (arcs_of program chain.top.proc) node ≡ true
    → WalksTo program chain.top.proc chain.top.globals chain.top.args node after
    → say.at chain.top.proc node chain.top.globals chain.top.args after

-- Of each return of an activation that stands on a stack from `main` that is said.
abbrev pub AreReturned : Program → Sayings → Type 0
AreReturned program say = (config : Config) (chain : IsChain program (start_of program) config)
    → (left : State) (value : ℤ)
    → Returns program chain.top.proc chain.top.globals chain.top.args left value
    → say.returned chain.top.proc chain.top.globals chain.top.args left value

-- what is said is true in every execution from `main`
pub record AreTrue (program : Program) (say : Sayings) : Type 0 where
  pub begun : AreBegun program say
  pub passed : ArePassed program say
  pub reached : AreReached program say
  pub returned : AreReturned program say

-- Whatever is kept is true in every execution from `main`.
abbrev pub KeptSayingsAreTrue : Type 1
KeptSayingsAreTrue = (program : Program) (say : Sayings) → AreKept program say
    → AreTrue program say

-- ---- assertions (Floyd 1967)

-- Conditions on activations: at each point over the columns of its procedure, and on what returned
-- over the globals and arguments with which it began, and behind them the globals and the value
-- that it left.
pub record Assertions : Type 0 where
  pub at : (proc node : ℕ) → List Term
  pub returned : (proc : ℕ) → List Term

-- each of the conditions is true
abbrev pub AreTrueIn : List Term → State → Type 0
AreTrueIn conditions state = AllByRecursion (λ cond. IsTrueIn cond state) conditions

-- that they are true is what is said
abbrev pub sayings_of : Assertions → Sayings
sayings_of asserted = record {
  at = λ proc node globals args state. AreTrueIn (asserted.at proc node) state;
  returned = λ proc globals args left value. AreTrueIn (asserted.returned proc)
      (globals ++ (args ++ (left ++ value ∷ [])));
}

-- Conditions that every passage keeps are true in every execution from `main`.
abbrev pub KeptAssertionsAreTrue : Type 0
KeptAssertionsAreTrue = (program : Program) (asserted : Assertions)
    → AreKept program (sayings_of asserted) → AreTrue program (sayings_of asserted)
