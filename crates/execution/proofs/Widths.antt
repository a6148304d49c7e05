-- The number of globals stays the same.
use Rattle.std.proofs.Common.{◌≡◌, ℕ, ℤ, Option, Some, None, List, [], ◌∷◌, length, refl, sym, ap, ◌∙◌, arith, ⊎_elim, length-append}
use Rattle.std.specs.Prelude.{slice_set}
use Rattle.std.proofs.lemmas.List.{length-set, length-take-le}
use Rattle.syntax_tree.specs.declared.program.Program.{Program}
use Rattle.syntax_tree.specs.Term.{Term}
use Rattle.syntax_tree.specs.Code.{Statement, Set, Any, Call, Guard, Check, If, Loop, Break, Continue, Return}
use Rattle.syntax_tree.specs.Value.{State}
use Rattle.execution.specs.Machine.{Item, Do, Head, Test, Tail, Frame, Config, Top, returned_value, state_of}
use Rattle.execution.specs.Step.{Chooses, DoesSimple, Resumes, StepsBy, StepsFrom, after_return}
use Rattle.execution.specs.Laws.{GlobalsStay}
use Rattle.execution.proofs.Straight.{globals_fit}

by_simple : (statement : Statement) (top : Top) (rest : List Item) (next : Config) → DoesSimple statement top rest next → length next.globals ≡ length top.globals
by_simple statement top rest next does =
    ap (λ c. length c.globals) does.next_is ∙ length-take-le (length top.globals) does.after (globals_fit top statement does.after does.changes)

by_choice : (cond : Term) (top : Top) (on_true on_false : List Item) (next : Config) → Chooses cond top on_true on_false next → length next.globals ≡ length top.globals
by_choice cond top on_true on_false next =
    ⊎_elim (λ p. ap (λ c. length c.globals) p.1) (λ p. ap (λ c. length c.globals) p.1)

by_return : (into : Option ℕ) (value : ℤ) (caller : Top) → length (after_return into value caller).globals ≡ length caller.globals
by_return None value caller = refl
by_return (Some col) value caller =
    let set = length-set (state_of caller) col value in
    let sum = length-append caller.globals caller.frame.own in
    length-take-le (length caller.globals) (slice_set (state_of caller) col value) (omega arith)

by_resume : (top : Top) (below : List Frame) (next : Config) → Resumes top below next → length next.globals ≡ length top.globals
by_resume top [] next step = absurd step
by_resume top (caller ∷ below) next step =
    ap (λ c. length c.globals) step ∙ by_return top.frame.into (returned_value top.frame) (record { globals = top.globals; frame = caller; below = below })

by_items : (program : Program) (top : Top) (items : List Item) (next : Config) → StepsBy program top items next → length next.globals ≡ length top.globals
by_items program top [] next step = by_resume top top.below next step
by_items program top (Do (Set col value) ∷ rest) next step = by_simple (Set col value) top rest next step
by_items program top (Do (Any col) ∷ rest) next step = by_simple (Any col) top rest next step
by_items program top (Do (Guard cond) ∷ rest) next step = by_simple (Guard cond) top rest next step
by_items program top (Do (Check number cond) ∷ rest) next step = by_simple (Check number cond) top rest next step
by_items program top (Do (Call proc args into) ∷ rest) next step = ap (λ c. length c.globals) step.next_is
by_items program top (Do (If cond on_true on_false) ∷ rest) next step = by_choice cond top _ _ next step
by_items program top (Do (Loop pre cond body step' first) ∷ rest) next step = ap (λ c. length c.globals) step
by_items program top (Do Break ∷ rest) next step = ap (λ c. length c.globals) step
by_items program top (Do Continue ∷ rest) next step = ap (λ c. length c.globals) step
by_items program top (Do Return ∷ rest) next step = ap (λ c. length c.globals) step
by_items program top (Head loop ∷ rest) next step = ap (λ c. length c.globals) step
by_items program top (Test loop ∷ rest) next step = by_choice loop.cond top _ _ next step
by_items program top (Tail loop ∷ rest) next step = ap (λ c. length c.globals) step

by_frames : (program : Program) (globals : State) (frames : List Frame) (next : Config) → StepsFrom program globals frames next → length next.globals ≡ length globals
by_frames program globals [] next step = absurd step
by_frames program globals (frame ∷ below) next step = by_items program (record { globals = globals; frame = frame; below = below }) frame.items next step

pub globals_stay : GlobalsStay
globals_stay program first last [] runs = ap (λ c. length c.globals) (sym runs)
globals_stay program first last (next ∷ steps) runs =
    globals_stay program next last steps runs.1 ∙ by_frames program first.globals first.frames next runs.0
