-- The stack of an execution is a chain of activations, each of which stands at the call that made
-- the next one.
use Rattle.std.specs.Prelude.{◌≡◌, ℕ, Some, List, [], ◌∷◌, ◌++◌}
use Rattle.syntax_tree.specs.declared.program.Program.{Program}
use Rattle.syntax_tree.specs.Term.{Term}
use Rattle.syntax_tree.specs.Code.{Call, Check}
use Rattle.syntax_tree.specs.Value.{State}
use Rattle.execution.specs.Machine.{Config, Do, Frame, Item}
use Rattle.execution.specs.Step.{IsFalseIn, values_of}
use Rattle.execution.specs.Execution.{Begins, Fails, Runs, initial_globals}
use Rattle.flow_graph.specs.Walks.{Stands}

-- how an activation began: in which procedure, with which globals and arguments
pub record Beginning : Type 0 where
  pub proc : ℕ
  pub globals : State
  pub args : State

-- An activation that began so stands at these items with these globals; the frame has its other
-- columns. Below it, from the top down, each frame stands at the call that made the one above it,
-- with the globals and argument values with which that one began, and in its other columns what it
-- still has. The bottom one began as the execution did.
abbrev pub StandsOver : Program → Beginning → Beginning → State → List Item → Frame → List Frame
    → Type 0
StandsOver program bottom here globals items frame [] =
    (here ≡ bottom) × (frame.proc ≡ here.proc) × Stands program here.proc here.globals here.args
    items (globals ++ frame.own)
StandsOver program bottom here globals items frame (caller ∷ below) =
    (frame.proc ≡ here.proc) × Stands program here.proc here.globals here.args items
    (globals ++ frame.own)
    × (under : Beginning) × (values : List Term)
    × (values_of values (here.globals ++ caller.own) ≡ Some here.args)
    × StandsOver program bottom under here.globals
    (Do (Call here.proc values frame.into) ∷ caller.items) caller below

-- the frames of a configuration are such a chain, whose top frame stands at its own items
pub record IsChain (program : Program) (bottom : Beginning) (config : Config) : Type 0 where
  pub top : Beginning
  pub frame : Frame
  pub below : List Frame
  pub frames_are : config.frames ≡ frame ∷ below
  pub stands : StandsOver program bottom top config.globals frame.items frame below

-- Each execution that begins in a procedure comes to chains alone.
abbrev pub StacksAreChains : Type 0
StacksAreChains = (program : Program) (proc : ℕ) (globals args : State) (first last : Config)
    (steps : List Config)
    → Begins program proc globals args first → Runs program first steps last
    → IsChain program (record { proc = proc; globals = globals; args = args }) last

-- A chain of activations from `main` on, of which the last stands at the assertion where its
-- condition is false.
pub record FailsInChain (program : Program) (number : ℕ) : Type 0 where
  pub config : Config
  pub chain : IsChain program (record {
    proc = program.main;
    globals = initial_globals program;
    args = [];
  }) config
  pub cond : Term
  pub rest : List Item
  pub next : chain.frame.items ≡ Do (Check number cond) ∷ rest
  pub fails : IsFalseIn cond (config.globals ++ chain.frame.own)

-- Each program that fails at an assertion has such a chain.
abbrev pub FailuresAreInChains : Type 0
FailuresAreInChains = (program : Program) (number : ℕ) → Fails program number
    → FailsInChain program number
