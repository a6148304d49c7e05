-- The interpreter's configurations as those of the machine. Its lists have the top call and the
-- next task last.
use Rattle.std.specs.Prelude.{◌≡◌, Option, Result, Ok, Err, List, [], ◌∷◌}
use Rattle.items.specs.Gives.{FailsBy}
use Rattle.syntax_tree.specs.Term.{term_of}
use Rattle.syntax_tree.specs.Code.{code_of, statement_of}
use Rattle.execution.specs.declared.outcome.Event.{Event}
use Rattle.execution.specs.declared.outcome.Stop.{Stop}
use Rattle.execution.specs.declared.interpreter.Repeat.{Repeat}
use Rattle.execution.specs.declared.interpreter.Task.{Task}
use Rattle.execution.specs.declared.interpreter.Task.TheVariants as task
use Rattle.execution.specs.declared.interpreter.Activation.{Activation}
use Rattle.execution.specs.declared.interpreter.Machine.{Machine}
use Rattle.execution.specs.Chosen.{Stepped, cause}
use Rattle.execution.specs.Machine.{Item, Do, Head, Test, Tail, LoopParts, Frame, Config, Top}

-- a loop that the interpreter has begun, as one of the machine
abbrev pub parts_of : Repeat → LoopParts
parts_of r = record {
  pre = code_of r.pre.now;
  cond = term_of r.cond.now;
  body = code_of r.body.now;
  step = code_of r.step.now;
  first = r.first;
}

-- the item that a task stands for
abbrev pub item_of : Task → Item
item_of (task.Do stmt) = Do (statement_of stmt.now)
item_of (task.Head r) = Head (parts_of r)
item_of (task.Test r) = Test (parts_of r)
item_of (task.Tail r) = Tail (parts_of r)

-- the items of a list of tasks, the last task first, before those that follow
abbrev pub items_onto : List Task → List Item → List Item
items_onto [] rest = rest
items_onto (t ∷ ts) rest = items_onto ts (item_of t ∷ rest)

-- the items of a list of tasks, the last task first
abbrev pub items_of : List Task → List Item
items_of tasks = items_onto tasks []

-- the frame that a call of the interpreter stands for
abbrev pub frame_of : Activation → Frame
frame_of call = record {
  proc = call.proc;
  own = call.own;
  items = items_of call.tasks;
  into = call.into;
}

-- the frames of a list of calls, the last call first, before those below
abbrev pub frames_onto : List Activation → List Frame → List Frame
frames_onto [] rest = rest
frames_onto (call ∷ calls) rest = frames_onto calls (frame_of call ∷ rest)

-- the frames of a list of calls, the last call first
abbrev pub frames_of : List Activation → List Frame
frames_of calls = frames_onto calls []

-- the configuration that the interpreter has come to
abbrev pub machine_config : Machine → Config
machine_config machine = record { globals = machine.globals; frames = frames_of machine.calls }

-- a call on top of the others
abbrev pub machine_top : Machine → Activation → Top
machine_top machine call = record {
  globals = machine.globals;
  frame = frame_of call;
  below = frames_of machine.calls;
}

-- A step came to what is stated: the machine goes on from there, or there is none. Want of memory
-- is free.
abbrev pub Takes : Machine → Result (Option Event) Stop → Result Stepped Stop → Type 0
Takes after (Ok event) stated = stated ≡ Ok (record { event = event; next = machine_config after })
Takes after (Err stop) stated = FailsBy (cause stop) stated
