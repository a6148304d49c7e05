-- Walks of a flow graph, and what an activation of a procedure comes to. A state has one number for
-- each column; the globals are the first columns, and the last is the value that is returned.
use Rattle.std.specs.Prelude.{◌≡◌, ℕ, ℤ, ◌+◌, Option, None, Some, List, [], ◌∷◌, ◌++◌, length, take, drop, slice_get, slice_set}
use Rattle.syntax_tree.specs.declared.program.Proc.{Proc}
use Rattle.syntax_tree.specs.declared.program.Program.{Program}
use Rattle.syntax_tree.specs.Term.{Term}
use Rattle.syntax_tree.specs.Code.{Statement, Call}
use Rattle.syntax_tree.specs.Value.{State}
use Rattle.execution.specs.Machine.{Config, Frame, Item}
use Rattle.execution.specs.Step.{Changes, values_of}
use Rattle.execution.specs.Execution.{Begins, Returns, Runs}
use Rattle.flow_graph.specs.FlowGraph.{Arc, graph_of}

-- what calls mean: a procedure, called with globals and arguments, returns with globals and a value
abbrev pub CallMeaning : Type 1
CallMeaning = ℕ → State → State → State → ℤ → Type 0

-- the returned value goes into the column that awaits it
abbrev pub state_with_value : Option ℕ → ℤ → State → State
state_with_value None value state = state
state_with_value (Some col) value state = slice_set state col value

-- A call takes the globals and the values of its arguments, and leaves the columns past the globals
-- but for the one that awaits its value.
pub record CallRelates (calls : CallMeaning) (globals : ℕ) (proc : ℕ) (args : List Term)
    (into : Option ℕ) (before after : State) : Type 0 where
  pub values : List ℤ
  pub are : values_of args before ≡ Some values
  pub left : State
  pub value : ℤ
  pub returns : calls proc (take globals before) values left value
  pub after_is : after ≡ state_with_value into value (left ++ drop globals before)

-- The relation of an edge, by what it does, where so many columns are globals: a call relates as
-- those that are there say, every other statement as it changes a state.
abbrev pub EdgeRelates : CallMeaning → ℕ → Statement → State → State → Type 0
EdgeRelates calls globals (Call proc args into) before after =
    CallRelates calls globals proc args into before after
EdgeRelates calls globals statement before after = Changes statement before after

-- one edge of a walk, by its place in the list of edges, and the state behind it
pub record Stride : Type 0 where
  pub edge : ℕ
  pub state : State

-- A walk along edges leads from a node in a state to a node in a state.
abbrev pub Walks : CallMeaning → ℕ → List Arc → ℕ → State → List Stride → ℕ → State → Type 0
Walks calls globals arcs node state [] last final = (node ≡ last) × (state ≡ final)
Walks calls globals arcs node state (stride ∷ path) last final =
    (way : Arc) × (slice_get arcs stride.edge ≡ Some way) × (way.from ≡ node)
    × EdgeRelates calls globals way.act state stride.state
    × Walks calls globals arcs way.to stride.state path last final

-- A walk of the graph of a procedure leads from its entry to a node. It begins with these globals
-- and arguments and any numbers in the other columns, and calls are those that return.
pub record WalksTo (program : Program) (proc : ℕ) (globals args : State) (node : ℕ)
    (final : State) : Type 0 where
  pub width : length globals ≡ length program.globals
  pub callee : Proc
  pub is : slice_get program.procs proc ≡ Some callee
  pub params : length args ≡ callee.params
  pub others : List ℤ
  pub columns : length args + length others ≡ length callee.columns + 1
  pub path : List Stride
  pub walk : Walks (Returns program) (length program.globals) (graph_of program proc).arcs
      0 (globals ++ (args ++ others)) path node final

-- An activation stands at these items in this state: an execution that begins in the procedure
-- comes to them, and no call that it made is open.
pub record Stands (program : Program) (proc : ℕ) (globals args : State) (items : List Item)
    (final : State) : Type 0 where
  pub first : Config
  pub begins : Begins program proc globals args first
  pub steps : List Config
  pub now : State
  pub frame : Frame
  pub runs : Runs program first steps (record { globals = now; frames = frame ∷ [] })
  pub items_are : frame.items ≡ items
  pub state_is : now ++ frame.own ≡ final
