-- What a step leaves open.
use Rattle.std.proofs.Common.{◌≡◌, ℕ, List, [], ◌∷◌, ◌++◌, refl, sym, ap, subst, ◌∙◌, ℤ, true, false, Option, Some, length, take, drop, ⊎_elim}
use Rattle.std.specs.Prelude.{slice_set}
use Rattle.syntax_tree.specs.declared.program.Program.{Program}
use Rattle.syntax_tree.specs.Term.{Term}
use Rattle.syntax_tree.specs.Code.{Statement, Set, Any, Call, Guard, Check, If, Loop, Break, Continue, Return, code_of}
use Rattle.syntax_tree.specs.Value.{State}
use Rattle.execution.specs.Machine.{Item, Do, Head, Test, Tail, Frame, Config, Top, pending, state_of, with_state}
use Rattle.execution.specs.Step.{Changes, Chooses, DoesCall, DoesSimple, IsEntered, Resumes, StepsBy, StepsFrom}
use Rattle.execution.specs.Laws.{ColumnsDetermineStep, StepIsDetermined, leaves_choice, top_items, top_own}

same_some : {X : Type 0} {v w : X} → Some v ≡ Some w → v ≡ w
same_some e = cc

same_simple : (statement : Statement) (top : Top) (rest : List Item) (one other : Config)
    → ((before after last : State) → Changes statement before after → Changes statement before last → after ≡ last)
    → DoesSimple statement top rest one → DoesSimple statement top rest other → one ≡ other
same_simple statement top rest one other same a b =
    a.next_is ∙ ap (λ state. with_state top state rest) (same (state_of top) a.after b.after a.changes b.changes) ∙ sym b.next_is

same_set : (col : ℕ) (value : Term) (before after last : State) → Changes (Set col value) before after → Changes (Set col value) before last → after ≡ last
same_set col value before after last (v, is, set) (w, was, put) =
    set ∙ ap (slice_set before col) (same_some (sym is ∙ was)) ∙ sym put

same_chosen : (cond : Term) (top : Top) (on_true on_false : List Item) (one other : Config)
    → Chooses cond top on_true on_false one → Chooses cond top on_true on_false other → one ≡ other
same_chosen cond top on_true on_false one other a b =
    ⊎_elim (λ p. ⊎_elim (λ q. p.1 ∙ sym q.1) (λ q. absurd (p.0.2 (same_some (sym p.0.1 ∙ q.0)))) b)
    (λ p. ⊎_elim (λ q. absurd (q.0.2 (same_some (sym q.0.1 ∙ p.0)))) (λ q. p.1 ∙ sym q.1) b) a

same_resumed : (top : Top) (below : List Frame) (one other : Config) → Resumes top below one → Resumes top below other → one ≡ other
same_resumed top [] one other a b = absurd a
same_resumed top (caller ∷ below) one other a b = a ∙ sym b

false≢true : {X : Type 0} → true ≡ false → X
false≢true e = absurd (cc e)

by_items : (program : Program) (top : Top) (items : List Item) (one other : Config)
    → leaves_choice items ≡ false → StepsBy program top items one → StepsBy program top items other → one ≡ other
by_items program top [] one other e a b = same_resumed top top.below one other a b
by_items program top (Do (Set col value) ∷ rest) one other e a b = same_simple (Set col value) top rest one other (same_set col value) a b
by_items program top (Do (Any col) ∷ rest) one other e a b = false≢true e
by_items program top (Do (Call proc args into) ∷ rest) one other e a b = false≢true e
by_items program top (Do (Guard cond) ∷ rest) one other e a b = same_simple (Guard cond) top rest one other (λ before after last p q. p.1 ∙ sym q.1) a b
by_items program top (Do (Check number cond) ∷ rest) one other e a b = same_simple (Check number cond) top rest one other (λ before after last p q. p.1 ∙ sym q.1) a b
by_items program top (Do (If cond on_true on_false) ∷ rest) one other e a b = same_chosen cond top _ _ one other a b
by_items program top (Do (Loop pre cond body step first) ∷ rest) one other e a b = a ∙ sym b
by_items program top (Do Break ∷ rest) one other e a b = a ∙ sym b
by_items program top (Do Continue ∷ rest) one other e a b = a ∙ sym b
by_items program top (Do Return ∷ rest) one other e a b = a ∙ sym b
by_items program top (Head loop ∷ rest) one other e a b = a ∙ sym b
by_items program top (Test loop ∷ rest) one other e a b = same_chosen loop.cond top _ _ one other a b
by_items program top (Tail loop ∷ rest) one other e a b = a ∙ sym b

by_frames : (program : Program) (globals : State) (frames : List Frame) (one other : Config)
    → leaves_choice (top_items frames) ≡ false → StepsFrom program globals frames one → StepsFrom program globals frames other → one ≡ other
by_frames program globals [] one other e a b = absurd a
by_frames program globals (frame ∷ below) one other e a b =
    by_items program (record { globals = globals; frame = frame; below = below }) frame.items one other e a b

pub step_is_determined : StepIsDetermined
step_is_determined program config one other e a b = by_frames program config.globals config.frames one other e a b

-- ---- the columns determine what is left open

set_by_columns : (top : Top) (rest : List Item) (s t : State) (one other : Config) → one ≡ with_state top s rest → other ≡ with_state top t rest
    → one.globals ≡ other.globals → top_own one.frames ≡ top_own other.frames → one ≡ other
set_by_columns top rest s t one other a b globals own =
    let g : take (length top.globals) s ≡ take (length top.globals) t = sym (ap (λ c. c.globals) a) ∙ globals ∙ ap (λ c. c.globals) b in
    let o : drop (length top.globals) s ≡ drop (length top.globals) t = sym (ap (λ c. top_own c.frames) a) ∙ own ∙ ap (λ c. top_own c.frames) b in
    a ∙ (λ i. record { globals = g i; frames = record top.frame { own = o i; items = rest } ∷ top.below }) ∙ sym b

same_entered : (program : Program) (proc : ℕ) (args : List ℤ) (into : Option ℕ) (one other : Frame)
    → IsEntered program proc args into one → IsEntered program proc args into other → one.own ≡ other.own → one ≡ other
same_entered program proc args into one other a b own =
    let callee : a.callee ≡ b.callee = same_some (sym a.is ∙ b.is) in
    let others : args ++ a.others ≡ args ++ b.others = sym (ap (λ f. f.own) a.frame_is) ∙ own ∙ ap (λ f. f.own) b.frame_is in
    a.frame_is ∙ (λ i. record { proc = proc; own = others i; items = pending (code_of (callee i).body) []; into = into }) ∙ sym b.frame_is

same_call : (program : Program) (proc : ℕ) (args : List Term) (into : Option ℕ) (top : Top) (rest : List Item) (one other : Config)
    → DoesCall program proc args into top rest one → DoesCall program proc args into top rest other → top_own one.frames ≡ top_own other.frames → one ≡ other
same_call program proc args into top rest one other a b own =
    let values : b.values ≡ a.values = same_some (sym b.are ∙ a.are) in
    let entered = subst (λ vs. IsEntered program proc vs into b.frame) values b.entered in
    let columns : a.frame.own ≡ b.frame.own = sym (ap (λ c. top_own c.frames) a.next_is) ∙ own ∙ ap (λ c. top_own c.frames) b.next_is in
    let frame : a.frame ≡ b.frame = same_entered program proc a.values into a.frame b.frame a.entered entered columns in
    a.next_is ∙ (λ i. record { globals = top.globals; frames = frame i ∷ record top.frame { items = rest } ∷ top.below }) ∙ sym b.next_is

columns_by_items : (program : Program) (top : Top) (items : List Item) (one other : Config)
    → StepsBy program top items one → StepsBy program top items other
    → one.globals ≡ other.globals → top_own one.frames ≡ top_own other.frames → one ≡ other
columns_by_items program top (Do (Any col) ∷ rest) one other a b globals own =
    set_by_columns top rest a.after b.after one other a.next_is b.next_is globals own
columns_by_items program top (Do (Call proc args into) ∷ rest) one other a b globals own = same_call program proc args into top rest one other a b own
columns_by_items program top [] one other a b globals own = by_items program top [] one other refl a b
columns_by_items program top (Do (Set col value) ∷ rest) one other a b globals own = by_items program top (Do (Set col value) ∷ rest) one other refl a b
columns_by_items program top (Do (Guard cond) ∷ rest) one other a b globals own = by_items program top (Do (Guard cond) ∷ rest) one other refl a b
columns_by_items program top (Do (Check number cond) ∷ rest) one other a b globals own = by_items program top (Do (Check number cond) ∷ rest) one other refl a b
columns_by_items program top (Do (If cond on_true on_false) ∷ rest) one other a b globals own = by_items program top (Do (If cond on_true on_false) ∷ rest) one other refl a b
columns_by_items program top (Do (Loop pre cond body step first) ∷ rest) one other a b globals own = by_items program top (Do (Loop pre cond body step first) ∷ rest) one other refl a b
columns_by_items program top (Do Break ∷ rest) one other a b globals own = by_items program top (Do Break ∷ rest) one other refl a b
columns_by_items program top (Do Continue ∷ rest) one other a b globals own = by_items program top (Do Continue ∷ rest) one other refl a b
columns_by_items program top (Do Return ∷ rest) one other a b globals own = by_items program top (Do Return ∷ rest) one other refl a b
columns_by_items program top (Head loop ∷ rest) one other a b globals own = by_items program top (Head loop ∷ rest) one other refl a b
columns_by_items program top (Test loop ∷ rest) one other a b globals own = by_items program top (Test loop ∷ rest) one other refl a b
columns_by_items program top (Tail loop ∷ rest) one other a b globals own = by_items program top (Tail loop ∷ rest) one other refl a b

columns_by_frames : (program : Program) (globals : State) (frames : List Frame) (one other : Config)
    → StepsFrom program globals frames one → StepsFrom program globals frames other
    → one.globals ≡ other.globals → top_own one.frames ≡ top_own other.frames → one ≡ other
columns_by_frames program globals [] one other a b = absurd a
columns_by_frames program globals (frame ∷ below) one other a b =
    columns_by_items program (record { globals = globals; frame = frame; below = below }) frame.items one other a b

pub columns_determine_step : ColumnsDetermineStep
columns_determine_step program config one other a b = columns_by_frames program config.globals config.frames one other a b
