-- One step of the machine. It acts on the first item of the top frame, and all that is not named
-- stays as it is.
use Rattle.std.specs.Prelude.{◌≡◌, ◌≢◌, ℕ, ℤ, pos, ◌+◌, Option, None, Some, List, [], ◌∷◌, ◌++◌, ◌⊎◌, length, slice_get, slice_set, if◌then◌else◌}
use Rattle.syntax_tree.specs.declared.program.Proc.{Proc}
use Rattle.syntax_tree.specs.declared.program.Program.{Program}
use Rattle.syntax_tree.specs.Term.{Term}
use Rattle.syntax_tree.specs.Code.{Statement, Set, Any, Call, Guard, Check, If, Loop, Break, Continue, Return, code_of}
use Rattle.syntax_tree.specs.Value.{State, value_of}
use Rattle.execution.specs.Machine.{Item, Do, Head, Test, Tail, LoopParts, Frame, Config, Top, after_loop, config_of, pending, returned_value, state_of, to_tail, with_items, with_state}

-- a condition is true where it has a value that isn't 0 (C11 6.8.4.1)
abbrev pub IsTrueIn : Term → State → Type 0
IsTrueIn cond state = (v : ℤ) × (value_of cond state ≡ Some v) × (v ≢ pos 0)

-- a condition is false where its value is 0 (C11 6.8.4.1)
abbrev pub IsFalseIn : Term → State → Type 0
IsFalseIn cond state = value_of cond state ≡ Some (pos 0)

-- What a simple statement does to the values of the columns. An assignment sets one (C11 6.5.16.1),
-- a column without a value takes any number, and a guard and an assertion ask for a true condition
-- and change nothing. The other statements are not simple.
abbrev pub Changes : Statement → State → State → Type 0
Changes (Set col value) before after = (v : ℤ) × (value_of value before ≡ Some v)
    × (after ≡ slice_set before col v)
Changes (Any col) before after = (v : ℤ) × (after ≡ slice_set before col v)
Changes (Guard cond) before after = IsTrueIn cond before × (after ≡ before)
Changes (Check number cond) before after = IsTrueIn cond before × (after ≡ before)
Changes (Call proc args into) before after = ⊥
Changes (If cond on_true on_false) before after = ⊥
Changes (Loop pre cond body step first) before after = ⊥
Changes Break before after = ⊥
Changes Continue before after = ⊥
Changes Return before after = ⊥

-- a value in front of others, or none where one of them is missing
abbrev pub with_value : Option ℤ → Option (List ℤ) → Option (List ℤ)
with_value None rest = None
with_value (Some v) None = None
with_value (Some v) (Some vs) = Some (v ∷ vs)

-- the values of arguments from the left, or none where one of them has none
abbrev pub values_of : List Term → State → Option (List ℤ)
values_of [] state = Some []
values_of (e ∷ rest) state = with_value (value_of e state) (values_of rest state)

-- A frame as it begins: the parameters have the arguments' values, the other columns any numbers,
-- and the whole body is still to do (C11 6.5.2.2, 6.9.1).
pub record IsEntered (program : Program) (proc : ℕ) (args : List ℤ) (into : Option ℕ)
    (frame : Frame) : Type 0 where
  pub callee : Proc
  pub is : slice_get program.procs proc ≡ Some callee
  pub params : length args ≡ callee.params
  pub others : List ℤ
  pub width : length args + length others ≡ length callee.columns + 1
  pub frame_is : frame ≡ record {
    proc = proc;
    own = args ++ others;
    items = pending (code_of callee.body) [];
    into = into;
  }

-- a simple statement is done, and leaves these items
pub record DoesSimple (statement : Statement) (top : Top) (rest : List Item)
    (next : Config) : Type 0 where
  pub after : State
  pub changes : Changes statement (state_of top) after
  pub next_is : next ≡ with_state top after rest

-- a call puts a frame on top
pub record DoesCall (program : Program) (proc : ℕ) (args : List Term) (into : Option ℕ) (top : Top)
    (rest : List Item) (next : Config) : Type 0 where
  pub values : List ℤ
  pub are : values_of args (state_of top) ≡ Some values
  pub frame : Frame
  pub entered : IsEntered program proc values into frame
  pub next_is : next ≡ record {
    globals = top.globals;
    frames = frame ∷ record top.frame { items = rest } ∷ top.below;
  }

-- a condition chooses what is to do
abbrev pub Chooses : Term → Top → List Item → List Item → Config → Type 0
Chooses cond top on_true on_false next =
    (IsTrueIn cond (state_of top) × (next ≡ with_items top on_true))
    ⊎ (IsFalseIn cond (state_of top) × (next ≡ with_items top on_false))

-- a frame with nothing left is removed, and its value goes into the column that awaits it (C11
-- 6.8.6.4)
abbrev pub after_return : Option ℕ → ℤ → Top → Config
after_return None value caller = config_of caller
after_return (Some col) value caller = with_state caller (slice_set (state_of caller) col value)
    caller.frame.items

-- a frame with nothing left goes back to its caller; the last frame has no step
abbrev pub Resumes : Top → List Frame → Config → Type 0
Resumes top [] next = ⊥
Resumes top (caller ∷ below) next =
    next ≡ after_return top.frame.into (returned_value top.frame) (record {
      globals = top.globals;
      frame = caller;
      below = below;
    })

-- what a loop does when it is begun: a `do` its body, the others what precedes the test (C11 6.8.5)
abbrev pub at_begin : LoopParts → List Item → List Item
at_begin loop rest = if loop.first then pending loop.body (Tail loop ∷ rest) else (Head loop ∷ rest)

-- what a loop does before its test: `pre`, and then the test
abbrev pub at_head : LoopParts → List Item → List Item
at_head loop rest = pending loop.pre (Test loop ∷ rest)

-- what a loop does after its body: a `do` goes on to its test, the others to their step
abbrev pub at_tail : LoopParts → List Item → List Item
at_tail loop rest = if loop.first then pending loop.pre (Test loop ∷ rest)
    else pending loop.step (Head loop ∷ rest)

-- The step by the first item, where `rest` are the others: `break` and `continue` (C11 6.8.6.2,
-- 6.8.6.3) and `return` (6.8.6.4) drop items, and a frame without items goes back to its caller.
abbrev pub StepsBy : Program → Top → List Item → Config → Type 0
StepsBy program top [] next = Resumes top top.below next
StepsBy program top (Do (Set col value) ∷ rest) next = DoesSimple (Set col value) top rest next
StepsBy program top (Do (Any col) ∷ rest) next = DoesSimple (Any col) top rest next
StepsBy program top (Do (Call proc args into) ∷ rest) next =
    DoesCall program proc args into top rest next
StepsBy program top (Do (Guard cond) ∷ rest) next = DoesSimple (Guard cond) top rest next
StepsBy program top (Do (Check number cond) ∷ rest) next =
    DoesSimple (Check number cond) top rest next
StepsBy program top (Do (If cond on_true on_false) ∷ rest) next =
    Chooses cond top (pending on_true rest) (pending on_false rest) next
StepsBy program top (Do (Loop pre cond body step first) ∷ rest) next =
    next ≡ with_items top (at_begin (record {
      pre = pre;
      cond = cond;
      body = body;
      step = step;
      first = first;
    }) rest)
StepsBy program top (Do Break ∷ rest) next = next ≡ with_items top (after_loop rest)
StepsBy program top (Do Continue ∷ rest) next = next ≡ with_items top (to_tail rest)
StepsBy program top (Do Return ∷ rest) next = next ≡ with_items top []
StepsBy program top (Head loop ∷ rest) next = next ≡ with_items top (at_head loop rest)
StepsBy program top (Test loop ∷ rest) next =
    Chooses loop.cond top (pending loop.body (Tail loop ∷ rest)) rest next
StepsBy program top (Tail loop ∷ rest) next = next ≡ with_items top (at_tail loop rest)

-- one step from these globals and frames; without frames there is none
abbrev pub StepsFrom : Program → State → List Frame → Config → Type 0
StepsFrom program globals [] next = ⊥
StepsFrom program globals (frame ∷ below) next =
    StepsBy program (record { globals = globals; frame = frame; below = below }) frame.items next

-- One step of a program leads from a configuration to the next.
abbrev pub Steps : Program → Config → Config → Type 0
Steps program config next = StepsFrom program config.globals config.frames next
