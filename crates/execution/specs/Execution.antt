-- Executions of a program: where they begin, and how they end.
use Rattle.std.specs.Prelude.{◌≡◌, ℕ, ℤ, None, List, [], ◌∷◌, length, map}
use Rattle.syntax_tree.specs.declared.program.Program.{Program}
use Rattle.syntax_tree.specs.Code.{Check}
use Rattle.syntax_tree.specs.Term.{Term}
use Rattle.syntax_tree.specs.Value.{State}
use Rattle.execution.specs.Machine.{Config, Do, Frame, Item, Top, config_of, returned_value, state_of}
use Rattle.execution.specs.Step.{IsEntered, IsFalseIn, Steps}

-- Steps lead from a configuration over each of the list to the last: the list has one configuration
-- a step.
abbrev pub Runs : Program → Config → List Config → Config → Type 0
Runs program first [] last = first ≡ last
Runs program first (next ∷ rest) last = Steps program first next × Runs program next rest last

-- An execution begins in a procedure, with a value for each global and these arguments: there is
-- one frame, whose body is still to do.
pub record Begins (program : Program) (proc : ℕ) (globals args : State)
    (first : Config) : Type 0 where
  pub width : length globals ≡ length program.globals
  pub frame : Frame
  pub entered : IsEntered program proc args None frame
  pub first_is : first ≡ record { globals = globals; frames = frame ∷ [] }

-- An execution that begins in a procedure comes to its end: its one frame has nothing left to do,
-- and returns a value. It leaves the globals `after`.
pub record Returns (program : Program) (proc : ℕ) (globals args after : State)
    (value : ℤ) : Type 0 where
  pub first : Config
  pub begins : Begins program proc globals args first
  pub steps : List Config
  pub frame : Frame
  pub runs : Runs program first steps (record { globals = after; frames = frame ∷ [] })
  pub done : frame.items ≡ []
  pub value_is : returned_value frame ≡ value

-- the values of the globals as `main` begins (C11 6.7.9)
abbrev pub initial_globals : Program → State
initial_globals program = map (λ g. g.init) program.globals

-- An execution from `main` comes to the assertion with this number, whose condition is false there.
pub record Fails (program : Program) (number : ℕ) : Type 0 where
  pub first : Config
  pub begins : Begins program program.main (initial_globals program) [] first
  pub steps : List Config
  pub top : Top
  pub runs : Runs program first steps (config_of top)
  pub cond : Term
  pub rest : List Item
  pub next : top.frame.items ≡ Do (Check number cond) ∷ rest
  pub fails : IsFalseIn cond (state_of top)
