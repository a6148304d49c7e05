-- Simple statements run as they change the state.
use Rattle.std.proofs.Common.{◌≡◌, ℕ, suc, ◌+◌, ◌≤◌, List, [], ◌∷◌, refl, sym, ap, subst, ◌∙◌, Bool, true, false, length, take, drop, arith, length-append}
use Rattle.std.specs.Prelude.{◌&&◌}
use Rattle.std.proofs.lemmas.List.{take-append-drop, length-take-le, length-set}
use Rattle.std.proofs.Math.Seq.{take-append_seam, drop-append_seam}
use Rattle.syntax_tree.specs.declared.program.Program.{Program}
use Rattle.syntax_tree.specs.Code.{Statement, Set, Any, Call, Guard, Check, If, Loop, Break, Continue, Return, End, Then}
use Rattle.syntax_tree.specs.Value.{State}
use Rattle.execution.specs.Machine.{Item, Do, Config, Top, config_of, pending, state_of, with_state}
use Rattle.execution.specs.Step.{Changes, DoesSimple, StepsBy}
use Rattle.execution.specs.Execution.{Runs}
use Rattle.execution.specs.Laws.{ChangesBy, ChangesRun, RunsChange, code_length, is_simple, is_straight}

-- a top frame after a change, and its state
abbrev pub changed : Top → State → List Item → Top
changed top state items = record {
  globals = take (length top.globals) state;
  frame = record top.frame { own = drop (length top.globals) state; items = items };
  below = top.below;
}

pub state_of-changed : (top : Top) (state : State) (items : List Item) → state_of (changed top state items) ≡ state
state_of-changed top state items = take-append-drop (length top.globals) state

cut_at : Top → State → List Item → ℕ → Config
cut_at top state items n = record { globals = take n state; frames = record top.frame { own = drop n state; items = items } ∷ top.below }

pub with_state-changed : (top : Top) (state : State) (items : List Item) (after : State) (rest : List Item) → length top.globals ≤ length state
    → with_state (changed top state items) after rest ≡ with_state top after rest
unfolding cut_at
with_state-changed top state items after rest fits = ap (cut_at top after rest) (length-take-le (length top.globals) state fits)

pub with_state-same : (top : Top) → with_state top (state_of top) top.frame.items ≡ config_of top
with_state-same top =
    let globals = take-append_seam top.globals top.frame.own in
    let own = drop-append_seam top.globals top.frame.own in
    λ i. record { globals = globals i; frames = record top.frame { own = own i } ∷ top.below }

pub length-Changes : (statement : Statement) (before after : State) → Changes statement before after → length after ≡ length before
length-Changes (Set col value) before after (v, is, set) = ap length set ∙ length-set before col v
length-Changes (Any col) before after (v, set) = ap length set ∙ length-set before col v
length-Changes (Guard cond) before after (true_there, same) = ap length same
length-Changes (Check number cond) before after (true_there, same) = ap length same
length-Changes (Call proc args into) before after none = absurd none
length-Changes (If cond on_true on_false) before after none = absurd none
length-Changes (Loop pre cond body step first) before after none = absurd none
length-Changes Break before after none = absurd none
length-Changes Continue before after none = absurd none
length-Changes Return before after none = absurd none

pub globals_fit : (top : Top) (statement : Statement) (after : State) → Changes statement (state_of top) after → length top.globals ≤ length after
globals_fit top statement after changes =
    let same = length-Changes statement (state_of top) after changes in
    let sum = length-append top.globals top.frame.own in
    omega arith

simple_step : (program : Program) (top : Top) (statement : Statement) (rest : List Item) (after : State)
    → Changes statement (state_of top) after → StepsBy program top (Do statement ∷ rest) (with_state top after rest)
simple_step program top (Set col value) rest after changes = record { after = after; changes = changes; next_is = refl }
simple_step program top (Any col) rest after changes = record { after = after; changes = changes; next_is = refl }
simple_step program top (Guard cond) rest after changes = record { after = after; changes = changes; next_is = refl }
simple_step program top (Check number cond) rest after changes = record { after = after; changes = changes; next_is = refl }
simple_step program top (Call proc args into) rest after none = absurd none
simple_step program top (If cond on_true on_false) rest after none = absurd none
simple_step program top (Loop pre cond body step first) rest after none = absurd none
simple_step program top Break rest after none = absurd none
simple_step program top Continue rest after none = absurd none
simple_step program top Return rest after none = absurd none

pub changes_run : ChangesRun
changes_run program top End rest after items changes =
    ([], refl, sym (with_state-same top) ∙ (λ i. with_state top (changes i) (items i)))
changes_run program top (Then statement code) rest after items (between, change, more) =
    let next : Top = changed top between (pending code rest) in
    let later = changes_run program next code rest after refl (subst (λ s. ChangesBy code s after) (sym (state_of-changed top between (pending code rest))) more) in
    let step = subst (λ pending. StepsBy program top pending (config_of next)) (sym items) (simple_step program top statement (pending code rest) between change) in
    let last = with_state-changed top between (pending code rest) after rest (globals_fit top statement between change) in
    let count : suc (length later.0) ≡ code_length code + 1 = omega (arith, later.1) in
    (config_of next ∷ later.0, count, (step, subst (Runs program (config_of next) later.0) last later.2))

pub simple_done : (program : Program) (top : Top) (statement : Statement) (rest : List Item) (next : Config)
    → is_simple statement ≡ true → StepsBy program top (Do statement ∷ rest) next → DoesSimple statement top rest next
simple_done program top (Set col value) rest next e step = step
simple_done program top (Any col) rest next e step = step
simple_done program top (Guard cond) rest next e step = step
simple_done program top (Check number cond) rest next e step = step
simple_done program top (Call proc args into) rest next e step = absurd (cc e)
simple_done program top (If cond on_true on_false) rest next e step = absurd (cc e)
simple_done program top (Loop pre cond body step' first) rest next e step = absurd (cc e)
simple_done program top Break rest next e step = absurd (cc e)
simple_done program top Continue rest next e step = absurd (cc e)
simple_done program top Return rest next e step = absurd (cc e)

both_true : (a b : Bool) → a && b ≡ true → (a ≡ true) × (b ≡ true)
both_true true b e = (refl, e)
both_true false b e = absurd (cc e)

pub runs_change : RunsChange
runs_change program top End rest [] last items straight lengths runs =
    (state_of top, refl, sym runs ∙ sym (with_state-same top) ∙ ap (with_state top (state_of top)) items)
runs_change program top End rest (next ∷ steps) last items straight lengths runs = absurd (omega arith)
runs_change program top (Then statement code) rest [] last items straight lengths runs = absurd (omega arith)
runs_change program top (Then statement code) rest (next ∷ steps) last items straight lengths runs =
    let simple = both_true (is_simple statement) (is_straight code) straight in
    let does = simple_done program top statement (pending code rest) next simple.0 (subst (λ pending. StepsBy program top pending next) items runs.0) in
    let later = runs_change program (changed top does.after (pending code rest)) code rest steps last refl simple.1 (omega arith) (subst (λ c. Runs program c steps last) does.next_is runs.1) in
    let more = subst (λ s. ChangesBy code s later.0) (state_of-changed top does.after (pending code rest)) later.1 in (
      later.0,
      (does.after, does.changes, more),
      later.2 ∙ with_state-changed top does.after (pending code rest) later.0 rest (globals_fit top statement does.after does.changes),
    )
