-- The items of a list of tasks.
use Rattle.std.proofs.Common.{◌≡◌, ℕ, suc, ◌+◌, ◌<◌, List, [], ◌∷◌, ◌++◌, drop, get_or, length, Option, refl, sym, ap, subst, add-one}
use Rattle.std.proofs.Math.Seq.{drop-cons}
use Rattle.syntax_tree.specs.declared.stmt.Stmt.{Stmt}
use Rattle.syntax_tree.specs.Code.{Set, Any, Call, Guard, Check, If, Loop, Break, Continue, Return, code_of, statement_of}
use Rattle.execution.specs.declared.interpreter.Task.{Task}
use Rattle.execution.specs.declared.interpreter.Activation.{Activation}
use Rattle.execution.specs.Machine.{Item, Do, Head, Test, Tail, LoopParts, Frame, Config, Top, after_loop, pending, to_tail}
use Rattle.execution.specs.Step.{StepsBy, StepsFrom, Steps}
use Rattle.syntax_tree.specs.declared.program.Program.{Program}
use Rattle.syntax_tree.specs.Value.{State}
use Rattle.execution.specs.Interpreter.{frame_of, frames_of, frames_onto, item_of, items_of, items_onto}

items_onto-push : (ts : List Task) (t : Task) (rest : List Item) → items_onto (ts ++ t ∷ []) rest ≡ item_of t ∷ items_onto ts rest
items_onto-push [] t rest = refl
items_onto-push (x ∷ ts) t rest = items_onto-push ts t (item_of x ∷ rest)

pub items_of-push : (ts : List Task) (t : Task) → items_of (ts ++ t ∷ []) ≡ item_of t ∷ items_of ts
items_of-push ts t = items_onto-push ts t []

pub pending-drop : (code : List Stmt) (k : ℕ) (s : Stmt) (rest : List Item) → s ≡ get_or code k s → k < length code
    → pending (code_of (drop k code)) rest ≡ Do (statement_of s) ∷ pending (code_of (drop (k + 1) code)) rest
pending-drop code k s rest e h = rw (add-one, drop-cons code k s h) (ap (λ x. Do (statement_of x) ∷ pending (code_of (drop (suc k) code)) rest) (sym e))

frames_onto-push : (calls : List Activation) (call : Activation) (rest : List Frame) → frames_onto (calls ++ call ∷ []) rest ≡ frame_of call ∷ frames_onto calls rest
frames_onto-push [] call rest = refl
frames_onto-push (x ∷ calls) call rest = frames_onto-push calls call (frame_of x ∷ rest)

pub frames_of-push : (calls : List Activation) (call : Activation) → frames_of (calls ++ call ∷ []) ≡ frame_of call ∷ frames_of calls
frames_of-push calls call = frames_onto-push calls call []

-- what is after a loop follows its end
pub after_loop-tail : (items : List Item) (loop : LoopParts) (rest : List Item) → to_tail items ≡ Tail loop ∷ rest → after_loop items ≡ rest
after_loop-tail [] loop rest e = absurd (cc e)
after_loop-tail (Do s ∷ items) loop rest e = after_loop-tail items loop rest e
after_loop-tail (Head l ∷ items) loop rest e = after_loop-tail items loop rest e
after_loop-tail (Test l ∷ items) loop rest e = after_loop-tail items loop rest e
after_loop-tail (Tail l ∷ items) loop rest e = same_rest e
  where
    same_rest : Tail l ∷ items ≡ Tail loop ∷ rest → items ≡ rest
    same_rest e = cc

pub ruleset leaves = (items_of-push, frames_of-push, after_loop-tail)

-- a step by an item does not read the items that the top frame has
abbrev with_other : Top → List Item → Top
with_other top items = record { globals = top.globals; frame = record top.frame { items = items }; below = top.below }

pub StepsBy-items : (program : Program) (top : Top) (items : List Item) (item : Item) (rest : List Item) (next : Config)
    → StepsBy program top (item ∷ rest) next → StepsBy program (with_other top items) (item ∷ rest) next
StepsBy-items program top items (Do (Set col value)) rest next step = record { after = step.after; changes = step.changes; next_is = step.next_is }
StepsBy-items program top items (Do (Any col)) rest next step = record { after = step.after; changes = step.changes; next_is = step.next_is }
StepsBy-items program top items (Do (Guard cond)) rest next step = record { after = step.after; changes = step.changes; next_is = step.next_is }
StepsBy-items program top items (Do (Check number cond)) rest next step = record { after = step.after; changes = step.changes; next_is = step.next_is }
StepsBy-items program top items (Do (Call proc args into)) rest next step =
    record { values = step.values; are = step.are; frame = step.frame; entered = step.entered; next_is = step.next_is }
StepsBy-items program top items (Do (If cond on_true on_false)) rest next step = step
StepsBy-items program top items (Do (Loop pre cond body step' first)) rest next step = step
StepsBy-items program top items (Do Break) rest next step = step
StepsBy-items program top items (Do Continue) rest next step = step
StepsBy-items program top items (Do Return) rest next step = step
StepsBy-items program top items (Head loop) rest next step = step
StepsBy-items program top items (Test loop) rest next step = step
StepsBy-items program top items (Tail loop) rest next step = step

-- the step of a machine whose top call had one more task
pub Steps-task : (program : Program) (globals : State) (frames : List Frame) (proc : ℕ) (own : State) (rest : List Item) (into : Option ℕ) (below : List Frame) (item : Item) (next : Config)
    → frames ≡ record { proc = proc; own = own; items = item ∷ rest; into = into } ∷ below
    → StepsBy program (record { globals = globals; frame = record { proc = proc; own = own; items = rest; into = into }; below = below }) (item ∷ rest) next
    → Steps program (record { globals = globals; frames = frames }) next
Steps-task program globals frames proc own rest into below item next are step =
    subst (λ fs. StepsFrom program globals fs next) (sym are)
    (StepsBy-items program (record { globals = globals; frame = record { proc = proc; own = own; items = rest; into = into }; below = below }) (item ∷ rest) item rest next step)

pub ruleset stepping = (items_of-push, frames_of-push, Steps-task)

pub ruleset tasks = (items_of-push, pending-drop, frames_of-push)
