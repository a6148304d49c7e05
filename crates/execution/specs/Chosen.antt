-- The chosen execution: every column of a new frame that is no parameter is 0, and a column that
-- takes any number takes the one that is handed in. Numbers have 128 bits. So each step, or why
-- there is none, is a function of the configuration.
use Rattle.std.specs.Prelude.{◌-◌, ◌+◌, ℕ, ℤ, pos, zero, suc, Option, None, Some, Result, Ok, Err, List, [], ◌∷◌, ◌++◌, length, map, slice_get, slice_set, if◌then◌else◌}
use Rattle.items.specs.Gives.{◌>>=◌}
use Rattle.syntax_tree.specs.declared.evaluation.EvalWide.{EvalWide}
use Rattle.syntax_tree.specs.declared.program.Proc.{Proc}
use Rattle.syntax_tree.specs.declared.program.Program.{Program}
use Rattle.syntax_tree.specs.Term.{Term}
use Rattle.syntax_tree.specs.Code.{Set, Any, Call, Guard, Check, If, Loop, Break, Continue, Return, code_of}
use Rattle.syntax_tree.specs.Value.{State, evaluation_result, is_true}
use Rattle.execution.specs.declared.outcome.Event.{Event}
use Rattle.execution.specs.declared.outcome.Event.TheVariants as event
use Rattle.execution.specs.declared.outcome.Stop.{Stop}
use Rattle.execution.specs.declared.outcome.Stop.TheVariants as stop
use Rattle.execution.specs.Machine.{Item, Do, Head, Test, Tail, Frame, Config, Top, after_loop, pending, returned_value, state_of, to_tail, with_items, with_state}
use Rattle.execution.specs.Step.{at_begin, at_head, at_tail, after_return}

-- a step, and what it shows
pub record Stepped : Type 0 where
  pub event : Option Event
  pub next : Config

-- a step that shows nothing, with the configuration behind it
abbrev pub quietly : Config → Result Stepped Stop
quietly next = Ok (record { event = None; next = next })

-- a step that shows an event, with the configuration behind it
abbrev pub showing : Event → Config → Result Stepped Stop
showing event next = Ok (record { event = Some event; next = next })

-- a number that a step needs, or why it isn't there
abbrev pub as_needed : Result (Option ℤ) EvalWide → Result ℤ Stop
as_needed (Ok (Some v)) = Ok v
as_needed (Ok None) = Err stop.Zero
as_needed (Err wide) = Err (stop.Wide wide)

-- the value of an expression in a state, or why a step that needs it isn't there
abbrev pub number_in : Term → State → Result ℤ Stop
number_in e state = as_needed (evaluation_result e state)

-- several of them: the first from the left that isn't there decides
abbrev pub numbers_in : List Term → State → Result (List ℤ) Stop
numbers_in [] state = Ok []
numbers_in (e ∷ rest) state = number_in e state >>= λ v. numbers_in rest state >>= λ vs. Ok (v ∷ vs)

-- so many columns that are 0
abbrev pub zeros : ℕ → State
zeros zero = []
zeros (suc n) = pos 0 ∷ zeros n

-- the columns of a new frame past the globals: the arguments, then 0 in all others
abbrev pub first_columns : Option Proc → List ℤ → State
first_columns None args = args
first_columns (Some callee) args = args ++ zeros (length callee.columns + 1 - length args)

-- what a new frame has to do: the body of its procedure; [] where there is none
abbrev pub first_items : Option Proc → List Item
first_items None = []
first_items (Some callee) = pending (code_of callee.body) []

-- a new frame for a call with these arguments; a well-formed program has the procedure
abbrev pub new_frame : Program → ℕ → List ℤ → Option ℕ → Frame
new_frame program proc args into = record {
  proc = proc;
  own = first_columns (slice_get program.procs proc) args;
  items = first_items (slice_get program.procs proc);
  into = into;
}

-- the value of an expression goes into a column
abbrev pub after_assignment : Top → List Item → ℕ → ℤ → Config
after_assignment top rest col v = with_state top (slice_set (state_of top) col v) rest

-- the step of an assignment, or why there is none
abbrev pub chosen_set : Top → List Item → ℕ → Term → Result Stepped Stop
chosen_set top rest col value = number_in value (state_of top)
    >>= λ v. quietly (after_assignment top rest col v)

-- a column takes the number that is handed in
abbrev pub chosen_any : Option ℤ → Top → List Item → ℕ → Result Stepped Stop
chosen_any None top rest col = Err stop.Dry
chosen_any (Some v) top rest col = showing (event.Any v) (after_assignment top rest col v)

-- a condition that has to be true
abbrev pub after_condition : Option Event → Stop → Top → List Item → ℤ → Result Stepped Stop
after_condition event otherwise top rest v =
    if is_true v then Ok (record { event = event; next = with_items top rest }) else Err otherwise

-- the step over a condition that has to be true, or why there is none: a false one stops for the
-- given cause
abbrev pub chosen_pass : Option Event → Stop → Top → List Item → Term → Result Stepped Stop
chosen_pass event otherwise top rest cond = number_in cond (state_of top) >>= after_condition event otherwise
    top rest

-- a condition that chooses what is to do
abbrev pub after_branch : Top → List Item → List Item → ℤ → Config
after_branch top on_true on_false v = if is_true v then with_items top on_true
    else with_items top on_false

-- the step by a condition that chooses what is to do, or why there is none
abbrev pub chosen_branch : Top → List Item → List Item → Term → Result Stepped Stop
chosen_branch top on_true on_false cond = number_in cond (state_of top)
    >>= λ v. quietly (after_branch top on_true on_false v)

-- a call puts a new frame on top
abbrev pub after_call : Program → ℕ → Option ℕ → Top → List Item → List ℤ → Config
after_call program proc into top rest values = record {
  globals = top.globals;
  frames = new_frame program proc values into ∷ record top.frame { items = rest } ∷ top.below;
}

-- the step of a call, which shows the procedure and its arguments, or why there is none
abbrev pub chosen_call : Program → Top → List Item → ℕ → List Term → Option ℕ → Result Stepped Stop
chosen_call program top rest proc args into = numbers_in args (state_of top) >>= λ values.
    showing (event.Call proc values) (after_call program proc into top rest values)

-- a frame without items is left, unless it is the last
abbrev pub chosen_return : Top → List Frame → Result Stepped Stop
chosen_return top [] = Err (stop.Done (returned_value top.frame))
chosen_return top (caller ∷ below) = showing (event.Return top.frame.proc (returned_value top.frame))
    (after_return top.frame.into (returned_value top.frame) (record {
      globals = top.globals;
      frame = caller;
      below = below;
    }))

-- The step by the first item, where `rest` are the others.
abbrev pub chosen_by : Program → Option ℤ → Top → List Item → Result Stepped Stop
chosen_by program number top [] = chosen_return top top.below
chosen_by program number top (Do (Set col value) ∷ rest) = chosen_set top rest col value
chosen_by program number top (Do (Any col) ∷ rest) = chosen_any number top rest col
chosen_by program number top (Do (Call proc args into) ∷ rest) =
    chosen_call program top rest proc args into
chosen_by program number top (Do (Guard cond) ∷ rest) = chosen_pass None stop.Guard top rest cond
chosen_by program number top (Do (Check n cond) ∷ rest) =
    chosen_pass (Some (event.Holds n)) (stop.Failed n) top rest cond
chosen_by program number top (Do (If cond on_true on_false) ∷ rest) =
    chosen_branch top (pending on_true rest) (pending on_false rest) cond
chosen_by program number top (Do (Loop pre cond body step first) ∷ rest) =
    quietly (with_items top (at_begin (record {
      pre = pre;
      cond = cond;
      body = body;
      step = step;
      first = first;
    }) rest))
chosen_by program number top (Do Break ∷ rest) = quietly (with_items top (after_loop rest))
chosen_by program number top (Do Continue ∷ rest) = quietly (with_items top (to_tail rest))
chosen_by program number top (Do Return ∷ rest) = quietly (with_items top [])
chosen_by program number top (Head loop ∷ rest) = quietly (with_items top (at_head loop rest))
chosen_by program number top (Test loop ∷ rest) =
    chosen_branch top (pending loop.body (Tail loop ∷ rest)) rest loop.cond
chosen_by program number top (Tail loop ∷ rest) = quietly (with_items top (at_tail loop rest))

-- an execution has a frame
abbrev pub chosen_from : Program → Option ℤ → State → List Frame → Result Stepped Stop
chosen_from program number globals [] = Err (stop.Done (pos 0))
chosen_from program number globals (frame ∷ below) =
    chosen_by program number (record {
      globals = globals;
      frame = frame;
      below = below;
    }) frame.items

-- The chosen step from a configuration, where this number is handed in.
abbrev pub chosen_step : Program → Option ℤ → Config → Result Stepped Stop
chosen_step program number config = chosen_from program number config.globals config.frames

-- where the chosen execution begins
abbrev pub chosen_start : Program → Config
chosen_start program = record {
  globals = map (λ g. g.init) program.globals;
  frames = new_frame program program.main [] None ∷ [];
}

-- want of memory stands for nothing that is stated
abbrev pub cause : Stop → Option Stop
cause stop.Memory = None
cause (stop.Done v) = Some (stop.Done v)
cause (stop.Failed n) = Some (stop.Failed n)
cause stop.Guard = Some stop.Guard
cause stop.Zero = Some stop.Zero
cause stop.Dry = Some stop.Dry
cause (stop.Wide wide) = Some (stop.Wide wide)
