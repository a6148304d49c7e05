-- The machine with one frame of interest on top, whose columns are one state with the globals.
use Rattle.std.proofs.Common.{◌≡◌, ◌≤◌, ℕ, ℤ, Option, Some, None, List, [], ◌∷◌, ◌++◌, inl, inr, ⊎_elim, refl, sym, ap, subst, ◌∙◌, length, take, drop}
use Rattle.std.specs.Prelude.{slice_set}
use Rattle.std.proofs.lemmas.List.{take-append-drop, length-take-le, length-set}
use Rattle.std.proofs.Math.Seq.{take-append_seam, drop-append_seam}
use Rattle.syntax_tree.specs.declared.program.Program.{Program}
use Rattle.syntax_tree.specs.Term.{Term}
use Rattle.syntax_tree.specs.Code.{Statement, Set, Any, Call, Guard, Check, If, Loop, Break, Continue, Return}
use Rattle.syntax_tree.specs.Value.{State}
use Rattle.execution.specs.Machine.{Item, Do, Head, Test, Tail, Frame, Config, Top, config_of, pending, with_state}
use Rattle.execution.specs.Step.{Changes, Chooses, DoesCall, DoesSimple, IsFalseIn, IsTrueIn, Resumes, Steps, StepsBy, after_return}
use Rattle.flow_graph.specs.Walks.{state_with_value}
use Rattle.flow_graph.proofs.Moves.{Chosen, Goes, Plain}

abbrev pub frame_with : ℕ → ℕ → Option ℕ → State → List Item → Frame
frame_with w proc into state items = record { proc = proc; own = drop w state; items = items; into = into }

abbrev pub top_at : ℕ → ℕ → Option ℕ → List Frame → State → List Item → Top
top_at w proc into below state items = record { globals = take w state; frame = frame_with w proc into state items; below = below }

-- `w` columns of the state are globals
abbrev pub here : ℕ → ℕ → Option ℕ → List Frame → State → List Item → Config
here w proc into below state items = config_of (top_at w proc into below state items)

pub seam : (w : ℕ) (xs ys : State) → length xs ≡ w → (take w (xs ++ ys) ≡ xs) × (drop w (xs ++ ys) ≡ ys)
seam w xs ys e =
    subst (λ n. (take n (xs ++ ys) ≡ xs) × (drop n (xs ++ ys) ≡ ys)) e (take-append_seam xs ys, drop-append_seam xs ys)

-- a configuration given by its parts
pub here_of : (w proc : ℕ) (into : Option ℕ) (below : List Frame) (globals own : State) (items : List Item) → length globals ≡ w
    → here w proc into below (globals ++ own) items ≡ record { globals = globals; frames = record { proc = proc; own = own; items = items; into = into } ∷ below }
here_of w proc into below globals own items e =
    let cut = seam w globals own e in
    λ i. record { globals = cut.0 i; frames = record { proc = proc; own = cut.1 i; items = items; into = into } ∷ below }

pub after_here : (w proc : ℕ) (into : Option ℕ) (below : List Frame) (state : State) (items : List Item) (after : State) (rest : List Item)
    → w ≤ length state → with_state (top_at w proc into below state items) after rest ≡ here w proc into below after rest
after_here w proc into below state items after rest fits =
    let cut : ℕ → Config = λ n. record { globals = take n after; frames = record { proc = proc; own = drop n after; items = rest; into = into } ∷ below } in
    ap cut (length-take-le w state fits)

module _ (program : Program) (w proc : ℕ) (into : Option ℕ) (below : List Frame) where
  -- ---- from the machine

  pub data OneStep (state : State) (items : List Item) (next : Config) : Type 0 where
    Ends : items ≡ [] → Resumes (top_at w proc into below state items) below next → OneStep state items next
    CallsOut : (callee : ℕ) (args : List Term) (awaits : Option ℕ) (rest : List Item) → items ≡ Do (Call callee args awaits) ∷ rest
        → DoesCall program callee args awaits (top_at w proc into below state items) rest next → OneStep state items next
    Inside : (more : List Item) (after : State) → Plain items state more after → next ≡ here w proc into below after more → OneStep state items next

  simple_out : (statement : Statement) (state : State) (items rest : List Item) (next : Config) → w ≤ length state
      → DoesSimple statement (top_at w proc into below state items) rest next
      → (after : State) × Changes statement state after × (next ≡ here w proc into below after rest)
  simple_out statement state items rest next fits does = (
    does.after,
    subst (λ s. Changes statement s does.after) (take-append-drop w state) does.changes,
    does.next_is ∙ after_here w proc into below state items does.after rest fits,
  )

  chosen_out : (cond : Term) (state : State) (items on_true on_false : List Item) (next : Config)
      → Chooses cond (top_at w proc into below state items) on_true on_false next
      → (more : List Item) × (after : State) × Chosen cond on_true on_false state more after × (next ≡ here w proc into below after more)
  chosen_out cond state items on_true on_false next =
      ⊎_elim (λ p. (on_true, state, inl (subst (λ s. IsTrueIn cond s) (take-append-drop w state) p.0, (refl, refl)), p.1))
      (λ p. (on_false, state, inr (subst (λ s. IsFalseIn cond s) (take-append-drop w state) p.0, (refl, refl)), p.1))

  pub one_step : (state : State) (items : List Item) (next : Config) → w ≤ length state
      → StepsBy program (top_at w proc into below state items) items next → OneStep state items next
  one_step state [] next fits step = Ends refl step
  one_step state (Do (Set col value) ∷ rest) next fits step =
      let out = simple_out (Set col value) state _ rest next fits step in Inside rest out.0 (out.1, refl) out.2
  one_step state (Do (Any col) ∷ rest) next fits step =
      let out = simple_out (Any col) state _ rest next fits step in Inside rest out.0 (out.1, refl) out.2
  one_step state (Do (Call callee args awaits) ∷ rest) next fits step = CallsOut callee args awaits rest refl step
  one_step state (Do (Guard cond) ∷ rest) next fits step =
      let out = simple_out (Guard cond) state _ rest next fits step in Inside rest out.0 (out.1, refl) out.2
  one_step state (Do (Check number cond) ∷ rest) next fits step =
      let out = simple_out (Check number cond) state _ rest next fits step in Inside rest out.0 (out.1, refl) out.2
  one_step state (Do (If cond on_true on_false) ∷ rest) next fits step =
      let out = chosen_out cond state (Do (If cond on_true on_false) ∷ rest) (pending on_true rest) (pending on_false rest) next step in Inside out.0 out.1 out.2 out.3
  one_step state (Do (Loop pre cond body step' first) ∷ rest) next fits step = Inside _ state (refl, refl) step
  one_step state (Do Break ∷ rest) next fits step = Inside _ state (refl, refl) step
  one_step state (Do Continue ∷ rest) next fits step = Inside _ state (refl, refl) step
  one_step state (Do Return ∷ rest) next fits step = Inside _ state (refl, refl) step
  one_step state (Head loop ∷ rest) next fits step = Inside _ state (refl, refl) step
  one_step state (Test loop ∷ rest) next fits step =
      let out = chosen_out loop.cond state (Test loop ∷ rest) (pending loop.body (Tail loop ∷ rest)) rest next step in Inside out.0 out.1 out.2 out.3
  one_step state (Tail loop ∷ rest) next fits step = Inside _ state (refl, refl) step

  -- ---- to the machine

  simple_in : (statement : Statement) (state : State) (items : List Item) (after : State) (rest more : List Item) → w ≤ length state
      → Changes statement state after → more ≡ rest
      → DoesSimple statement (top_at w proc into below state items) rest (here w proc into below after more)
  simple_in statement state items after rest more fits changes same = record {
    after = after;
    changes = subst (λ s. Changes statement s after) (sym (take-append-drop w state)) changes;
    next_is = ap (here w proc into below after) same ∙ sym (after_here w proc into below state items after rest fits);
  }

  chosen_in : (cond : Term) (state : State) (items on_true on_false more : List Item) (after : State)
      → Chosen cond on_true on_false state more after
      → Chooses cond (top_at w proc into below state items) on_true on_false (here w proc into below after more)
  chosen_in cond state items on_true on_false more after =
      ⊎_elim (λ p. inl (subst (λ s. IsTrueIn cond s) (sym (take-append-drop w state)) p.0, (λ i. here w proc into below (p.1.1 i) (p.1.0 i))))
      (λ p. inr (subst (λ s. IsFalseIn cond s) (sym (take-append-drop w state)) p.0, (λ i. here w proc into below (p.1.1 i) (p.1.0 i))))

  goes_in : (to : List Item) (state : State) (more : List Item) (after : State) → Goes to state more after
      → here w proc into below after more ≡ here w proc into below state to
  goes_in to state more after goes = λ i. here w proc into below (goes.1 i) (goes.0 i)

  pub plain_in : (state : State) (items more : List Item) (after : State) → w ≤ length state → Plain items state more after
      → Steps program (here w proc into below state items) (here w proc into below after more)
  plain_in state [] more after fits step = absurd step
  plain_in state (Do (Set col value) ∷ rest) more after fits step = simple_in (Set col value) state _ after rest more fits step.0 step.1
  plain_in state (Do (Any col) ∷ rest) more after fits step = simple_in (Any col) state _ after rest more fits step.0 step.1
  plain_in state (Do (Call callee args awaits) ∷ rest) more after fits step = absurd step
  plain_in state (Do (Guard cond) ∷ rest) more after fits step = simple_in (Guard cond) state _ after rest more fits step.0 step.1
  plain_in state (Do (Check number cond) ∷ rest) more after fits step = simple_in (Check number cond) state _ after rest more fits step.0 step.1
  plain_in state (Do (If cond on_true on_false) ∷ rest) more after fits step = chosen_in cond state (Do (If cond on_true on_false) ∷ rest) (pending on_true rest) (pending on_false rest) more after step
  plain_in state (Do (Loop pre cond body step' first) ∷ rest) more after fits step = goes_in _ state more after step
  plain_in state (Do Break ∷ rest) more after fits step = goes_in _ state more after step
  plain_in state (Do Continue ∷ rest) more after fits step = goes_in _ state more after step
  plain_in state (Do Return ∷ rest) more after fits step = goes_in _ state more after step
  plain_in state (Head loop ∷ rest) more after fits step = goes_in _ state more after step
  plain_in state (Test loop ∷ rest) more after fits step = chosen_in loop.cond state (Test loop ∷ rest) (pending loop.body (Tail loop ∷ rest)) rest more after step
  plain_in state (Tail loop ∷ rest) more after fits step = goes_in _ state more after step

  -- a caller goes on with the globals that its callee left, and the value in its column
  pub resumed_here : (awaits : Option ℕ) (value : ℤ) (left state : State) (rest : List Item) → length left ≡ w
      → after_return awaits value (record { globals = left; frame = frame_with w proc into state rest; below = below })
      ≡ here w proc into below (state_with_value awaits value (left ++ drop w state)) rest
  resumed_here None value left state rest e = sym (here_of w proc into below left (drop w state) rest e)
  resumed_here (Some col) value left state rest e =
      let after = slice_set (left ++ drop w state) col value in
      let cut : ℕ → Config = λ n. record { globals = take n after; frames = record { proc = proc; own = drop n after; items = rest; into = into } ∷ below } in
      ap cut e

pub received_length : (awaits : Option ℕ) (value : ℤ) (state : State) → length (state_with_value awaits value state) ≡ length state
received_length None value state = refl
received_length (Some col) value state = length-set state col value
