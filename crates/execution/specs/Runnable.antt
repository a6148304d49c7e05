-- Configurations whose steps need nothing that isn't there: each column that is read has a number,
-- and each procedure that is called is there, with columns for its arguments. A well-formed program
-- comes to no others.
use Rattle.std.specs.Prelude.{◌≡◌, ◌≤◌, ℕ, ◌+◌, Some, IsTrue, List, [], ◌∷◌, length, slice_get}
use Rattle.syntax_tree.specs.declared.program.Proc.{Proc}
use Rattle.syntax_tree.specs.declared.program.Program.{Program}
use Rattle.syntax_tree.specs.Code.{Statement, Set, Any, Call, Guard, Check, If, Loop, Break, Continue, Return, Code, End, Then}
use Rattle.syntax_tree.specs.Limits.{most_slots}
use Rattle.syntax_tree.specs.WellFormed.{all_columns_below, columns_below}
use Rattle.execution.specs.Machine.{Item, Do, Head, Test, Tail, LoopParts, Frame, Config}

-- there is such a procedure, it takes so many arguments, and has columns for them, and not too many
pub record IsCallable (program : Program) (proc args : ℕ) : Type 0 where
  pub callee : Proc
  pub is : slice_get program.procs proc ≡ Some callee
  pub params : args ≡ callee.params
  pub room : callee.params ≤ length callee.columns
  pub few : length callee.columns ≤ most_slots

-- a statement, and a list of statements, of a procedure with so many columns
abbrev mutual
  pub StatementCanRun : Program → ℕ → Statement → Type 0
  StatementCanRun program width (Set col value) = IsTrue (columns_below width value)
  StatementCanRun program width (Any col) = Unit {0}
  StatementCanRun program width (Call proc args into) =
      IsTrue (all_columns_below width args) × IsCallable program proc (length args)
  StatementCanRun program width (Guard cond) = IsTrue (columns_below width cond)
  StatementCanRun program width (Check number cond) = IsTrue (columns_below width cond)
  StatementCanRun program width (If cond on_true on_false) =
      IsTrue (columns_below width cond) × CodeCanRun program width on_true
      × CodeCanRun program width on_false
  StatementCanRun program width (Loop pre cond body step first) =
      CodeCanRun program width pre × IsTrue (columns_below width cond)
      × CodeCanRun program width body × CodeCanRun program width step
  StatementCanRun program width Break = Unit {0}
  StatementCanRun program width Continue = Unit {0}
  StatementCanRun program width Return = Unit {0}

  pub CodeCanRun : Program → ℕ → Code → Type 0
  CodeCanRun program width End = Unit {0}
  CodeCanRun program width (Then statement rest) = StatementCanRun program width statement
      × CodeCanRun program width rest

-- each part of a loop that was begun can run with so many columns
abbrev pub LoopCanRun : Program → ℕ → LoopParts → Type 0
LoopCanRun program width loop =
    CodeCanRun program width loop.pre × IsTrue (columns_below width loop.cond)
    × CodeCanRun program width loop.body × CodeCanRun program width loop.step

-- what an item has to do can run with so many columns
abbrev pub ItemCanRun : Program → ℕ → Item → Type 0
ItemCanRun program width (Do statement) = StatementCanRun program width statement
ItemCanRun program width (Head loop) = LoopCanRun program width loop
ItemCanRun program width (Test loop) = LoopCanRun program width loop
ItemCanRun program width (Tail loop) = LoopCanRun program width loop

-- each item of a list can run with so many columns
abbrev pub ItemsCanRun : Program → ℕ → List Item → Type 0
ItemsCanRun program width [] = Unit {0}
ItemsCanRun program width (item ∷ rest) = ItemCanRun program width item
    × ItemsCanRun program width rest

-- where so many columns are globals
abbrev pub FramesCanRun : Program → ℕ → List Frame → Type 0
FramesCanRun program globals [] = Unit {0}
FramesCanRun program globals (frame ∷ below) =
    ItemsCanRun program (globals + length frame.own) frame.items
    × FramesCanRun program globals below

-- each frame of a configuration can run, there is a frame, and the globals are as many as the
-- program's
pub record ConfigCanRun (program : Program) (config : Config) : Type 0 where
  pub frames : FramesCanRun program (length config.globals) config.frames
  pub globals : length config.globals ≡ length program.globals
  pub some : 1 ≤ length config.frames
