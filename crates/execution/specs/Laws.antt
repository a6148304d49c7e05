-- Laws of the machine, which show that its steps mean what was meant.
use Rattle.std.specs.Prelude.{◌≡◌, ℕ, ◌+◌, ◌<◌, ◌&&◌, ◌↔◌, ℤ, Bool, true, false, Option, Ok, Err, List, [], ◌∷◌, ◌++◌, All, length}
use Rattle.syntax_tree.specs.declared.program.Program.{Program}
use Rattle.syntax_tree.specs.Term.{Term}
use Rattle.syntax_tree.specs.Code.{Statement, Set, Any, Call, Guard, Check, Code, End, Then}
use Rattle.syntax_tree.specs.Value.{State}
use Rattle.execution.specs.Machine.{Item, Do, Frame, Config, Top, config_of, pending, state_of, with_state}
use Rattle.syntax_tree.specs.WellFormed.{IsWellFormed}
use Rattle.execution.specs.declared.outcome.Stop.{Stop}
use Rattle.execution.specs.declared.outcome.Stop.TheVariants as stop
use Rattle.execution.specs.Step.{Changes, IsFalseIn, Steps}
use Rattle.execution.specs.Execution.{Begins, Runs, initial_globals}
use Rattle.execution.specs.Chosen.{Stepped, chosen_start, chosen_step}
use Rattle.execution.specs.Runnable.{ConfigCanRun}
use Rattle.execution.specs.Stops.{StopsAt}

-- executions join
abbrev pub RunsJoin : Type 0
RunsJoin = (program : Program) (a b c : Config) (first second : List Config)
    → Runs program a first b → Runs program b second c → Runs program a (first ++ second) c

-- the items of the top frame; [] where there is no frame
abbrev pub top_items : List Frame → List Item
top_items [] = []
top_items (frame ∷ below) = frame.items

-- the columns of the top frame past the globals; [] where there is no frame
abbrev pub top_own : List Frame → State
top_own [] = []
top_own (frame ∷ below) = frame.own

-- an assignment of any number, and a call, leave a choice
abbrev pub leaves_choice : List Item → Bool
leaves_choice (Do (Any col) ∷ rest) = true
leaves_choice (Do (Call proc args into) ∷ rest) = true
leaves_choice _ = false

-- every other step is determined
abbrev pub StepIsDetermined : Type 0
StepIsDetermined = (program : Program) (config one other : Config)
    → leaves_choice (top_items config.frames) ≡ false
    → Steps program config one → Steps program config other → one ≡ other

-- the choice is that of the values of the top frame's columns, and no more
abbrev pub ColumnsDetermineStep : Type 0
ColumnsDetermineStep = (program : Program) (config one other : Config)
    → Steps program config one → Steps program config other
    → one.globals ≡ other.globals → top_own one.frames ≡ top_own other.frames → one ≡ other

-- after a failed assertion there is no step
abbrev pub FailedCheckStops : Type 0
FailedCheckStops = (program : Program) (top : Top) (number : ℕ) (cond : Term) (rest : List Item)
    (next : Config)
    → top.frame.items ≡ Do (Check number cond) ∷ rest → IsFalseIn cond (state_of top)
    → Steps program (config_of top) next → ⊥

-- these frames are at the bottom of a stack, with at least one above them
abbrev pub Above : List Frame → List Frame → Type 0
Above below frames = (top : Frame) × (between : List Frame) × (frames ≡ top ∷ (between ++ below))

-- frames stay as they are while there is one above them
abbrev pub FramesBelowStay : Type 0
FramesBelowStay = (program : Program) (below : List Frame) (first last : Config)
    (steps : List Config)
    → Above below first.frames → Runs program first steps last
    → All (λ config. length below < length config.frames) steps → Above below last.frames

-- the statements of a code change a state one after another
abbrev pub ChangesBy : Code → State → State → Type 0
ChangesBy End before after = before ≡ after
ChangesBy (Then statement code) before after =
    (between : State) × Changes statement before between × ChangesBy code between after

-- how many statements a code has, those inside of a statement not counted
abbrev pub code_length : Code → ℕ
code_length End = 0
code_length (Then statement code) = code_length code + 1

-- simple statements run as they change the state
abbrev pub ChangesRun : Type 0
ChangesRun = (program : Program) (top : Top) (code : Code) (rest : List Item) (after : State)
    → top.frame.items ≡ pending code rest → ChangesBy code (state_of top) after
    → (steps : List Config) × (length steps ≡ code_length code)
    × Runs program (config_of top) steps (with_state top after rest)

-- the statement is an assignment, a guard or an assertion, or a column takes any number
abbrev pub is_simple : Statement → Bool
is_simple (Set col value) = true
is_simple (Any col) = true
is_simple (Guard cond) = true
is_simple (Check number cond) = true
is_simple _ = false

-- each statement of a code is simple
abbrev pub is_straight : Code → Bool
is_straight End = true
is_straight (Then statement code) = is_simple statement && is_straight code

-- simple statements run only so: as many steps as there are statements change the state by these
abbrev pub RunsChange : Type 0
RunsChange = (program : Program) (top : Top) (code : Code) (rest : List Item) (steps : List Config)
    (last : Config)
    → top.frame.items ≡ pending code rest → is_straight code ≡ true
    → length steps ≡ code_length code → Runs program (config_of top) steps last
    → (after : State) × ChangesBy code (state_of top) after × (last ≡ with_state top after rest)

-- the number of globals stays the same
abbrev pub GlobalsStay : Type 0
GlobalsStay = (program : Program) (first last : Config) (steps : List Config)
    → Runs program first steps last → length last.globals ≡ length first.globals

-- the chosen execution begins as executions from `main` do
abbrev pub ChosenBegins : Type 0
ChosenBegins = (program : Program) → IsWellFormed program
    → Begins program program.main (initial_globals program) [] (chosen_start program)
    × ConfigCanRun program (chosen_start program)

-- each chosen step is a step
abbrev pub ChosenSteps : Type 0
ChosenSteps = (program : Program) (number : Option ℤ) (config : Config) (stepped : Stepped)
    → ConfigCanRun program config
    → chosen_step program number config ≡ Ok stepped → Steps program config stepped.next

-- a well-formed program comes only to configurations whose steps have all that they need
abbrev pub StepsCanRun : Type 0
StepsCanRun = (program : Program) (config next : Config) → IsWellFormed program
    → ConfigCanRun program config
    → Steps program config next → ConfigCanRun program next

-- the chosen execution has no step exactly for these causes
abbrev pub ChosenStops : Type 0
ChosenStops = (program : Program) (number : Option ℤ) (config : Config) (why : Stop)
    → ConfigCanRun program config
    → (chosen_step program number config ≡ Err why) ↔ StopsAt number config why

-- a cause ends all, unless a number is past 128 bits or none is handed in
abbrev pub ends_all : Stop → Bool
ends_all (stop.Wide wide) = false
ends_all stop.Dry = false
ends_all _ = true

-- where the chosen execution stops for a cause that ends all, there is no step at all
abbrev pub StopsHaveNoStep : Type 0
StopsHaveNoStep = (program : Program) (number : Option ℤ) (config next : Config) (why : Stop)
    → StopsAt number config why → ends_all why ≡ true → Steps program config next → ⊥
