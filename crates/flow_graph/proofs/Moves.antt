-- What a frame's items lead to, one machine step at a time and one edge at a time.
use Rattle.std.proofs.Common.{◌≡◌, ℕ, ℤ, pos, Bool, true, false, Option, Some, None, List, [], ◌∷◌, ◌⊎◌, inl, inr, ⊎_elim, refl, sym, ap, subst, ◌∙◌, length}
use Rattle.std.specs.Prelude.{◌≢◌, if◌then◌else◌, not, slice_get}
use Rattle.std.specs.Ordering.{int_eq}
use Rattle.std.proofs.lemmas.Bool.Decides.{Decides-int_eq}
use Rattle.std.proofs.lemmas.List.{length-set}
use Rattle.syntax_tree.specs.declared.op.Sign.TheVariants.{Not}
use Rattle.syntax_tree.specs.Term.{Term, Lit, Unary}
use Rattle.syntax_tree.specs.Code.{Statement, Set, Any, Call, Guard, Check, If, Loop, Break, Continue, Return, Code}
use Rattle.syntax_tree.specs.Value.{State, value_of, unary_value, with_number, truth_value}
use Rattle.execution.specs.Machine.{Item, Do, Head, Test, Tail, LoopParts, after_loop, pending, to_tail}
use Rattle.execution.specs.Step.{Changes, IsFalseIn, IsTrueIn, at_begin, at_head, at_tail}
use Rattle.flow_graph.specs.FlowGraph.{skip, unless}

abbrev pub Goes : List Item → State → List Item → State → Type 0
Goes to before items after = (items ≡ to) × (after ≡ before)

abbrev pub Chosen : Term → List Item → List Item → State → List Item → State → Type 0
Chosen cond on_true on_false before items after =
    (IsTrueIn cond before × Goes on_true before items after) ⊎ (IsFalseIn cond before × Goes on_false before items after)

-- one step of the machine inside a frame, that is no call and no return
abbrev pub Plain : List Item → State → List Item → State → Type 0
Plain [] before items after = ⊥
Plain (Do (Set col value) ∷ rest) before items after = Changes (Set col value) before after × (items ≡ rest)
Plain (Do (Any col) ∷ rest) before items after = Changes (Any col) before after × (items ≡ rest)
Plain (Do (Call proc args into) ∷ rest) before items after = ⊥
Plain (Do (Guard cond) ∷ rest) before items after = Changes (Guard cond) before after × (items ≡ rest)
Plain (Do (Check number cond) ∷ rest) before items after = Changes (Guard cond) before after × (items ≡ rest)
Plain (Do (If cond on_true on_false) ∷ rest) before items after = Chosen cond (pending on_true rest) (pending on_false rest) before items after
Plain (Do (Loop pre cond body step first) ∷ rest) before items after =
    Goes (at_begin (record { pre = pre; cond = cond; body = body; step = step; first = first }) rest) before items after
Plain (Do Break ∷ rest) before items after = Goes (after_loop rest) before items after
Plain (Do Continue ∷ rest) before items after = Goes (to_tail rest) before items after
Plain (Do Return ∷ rest) before items after = Goes [] before items after
Plain (Head loop ∷ rest) before items after = Goes (at_head loop rest) before items after
Plain (Test loop ∷ rest) before items after = Chosen loop.cond (pending loop.body (Tail loop ∷ rest)) rest before items after
Plain (Tail loop ∷ rest) before items after = Goes (at_tail loop rest) before items after

-- one edge: what it does, and the items behind it
pub record Move : Type 0 where
  pub act : Statement
  pub to : List Item

abbrev pub move : Statement → List Item → Move
move act to = record { act = act; to = to }

-- the beginning of a loop up to where its edges come together
abbrev pub begun : LoopParts → List Item → List Item
begun loop rest = if loop.first then pending loop.body (Tail loop ∷ rest) else at_head loop rest

abbrev pub next_turn : List Item → List Item
next_turn (Tail loop ∷ rest) = at_tail loop rest
next_turn [] = []
next_turn (Do statement ∷ rest) = Do statement ∷ rest
next_turn (Head loop ∷ rest) = Head loop ∷ rest
next_turn (Test loop ∷ rest) = Test loop ∷ rest

-- the edges at a node with these items
abbrev pub moves_of : List Item → List Move
moves_of [] = []
moves_of (Do (Set col value) ∷ rest) = move (Set col value) rest ∷ []
moves_of (Do (Any col) ∷ rest) = move (Any col) rest ∷ []
moves_of (Do (Call proc args into) ∷ rest) = move (Call proc args into) rest ∷ []
moves_of (Do (Guard cond) ∷ rest) = move (Guard cond) rest ∷ []
moves_of (Do (Check number cond) ∷ rest) = move (Guard cond) rest ∷ []
moves_of (Do (If cond on_true on_false) ∷ rest) = move (Guard cond) (pending on_true rest) ∷ move (unless cond) (pending on_false rest) ∷ []
moves_of (Do (Loop pre cond body step first) ∷ rest) =
    move skip (begun (record { pre = pre; cond = cond; body = body; step = step; first = first }) rest) ∷ []
moves_of (Do Break ∷ rest) = move skip (after_loop rest) ∷ []
moves_of (Do Continue ∷ rest) = move skip (next_turn (to_tail rest)) ∷ []
moves_of (Do Return ∷ rest) = move skip [] ∷ []
moves_of (Head loop ∷ rest) = move skip (at_head loop rest) ∷ []
moves_of (Test loop ∷ rest) = move (Guard loop.cond) (pending loop.body (Tail loop ∷ rest)) ∷ move (unless loop.cond) rest ∷ []
moves_of (Tail loop ∷ rest) = move skip (at_tail loop rest) ∷ []

-- these items are one step that changes nothing before those at a node
abbrev pub Silent : List Item → List Item → Type 0
Silent [] to = ⊥
Silent (Do statement ∷ rest) to = ⊥
Silent (Test loop ∷ rest) to = ⊥
Silent (Head loop ∷ rest) to = to ≡ at_head loop rest
Silent (Tail loop ∷ rest) to = to ≡ at_tail loop rest

abbrev pub Near : List Item → List Item → Type 0
Near items to = (items ≡ to) ⊎ Silent items to

-- ---- conditions

some_same : {X : Type 0} {v w : X} → Some v ≡ Some w → v ≡ w
some_same e = cc

pub skip_passes : (state : State) → IsTrueIn (Lit (pos 1)) state
skip_passes state = (pos 1, refl, (λ e. cc))

pub false_passes : (cond : Term) (state : State) → IsFalseIn cond state → IsTrueIn (Unary Not cond) state
false_passes cond state is = (pos 1, ap (λ v. with_number v (λ x. Some (unary_value Not x))) is, (λ e. cc))

nonzero_only : (zero_there : Bool) (x v : ℤ) → int_eq x (pos 0) ≡ zero_there
    → Some (truth_value (not (not zero_there))) ≡ Some v → v ≢ pos 0 → x ≡ pos 0
nonzero_only true x v is e differs = (Decides-int_eq x (pos 0)).0 is
nonzero_only false x v is e differs = absurd (differs (sym (some_same e)))

not_passes : (cond : Term) (state : State) (there : Option ℤ) (v : ℤ) → value_of cond state ≡ there
    → with_number there (λ x. Some (unary_value Not x)) ≡ Some v → v ≢ pos 0 → IsFalseIn cond state
not_passes cond state None v is e differs = absurd (cc e)
not_passes cond state (Some x) v is e differs = is ∙ ap Some (nonzero_only (int_eq x (pos 0)) x v refl e differs)

pub passes_false : (cond : Term) (state : State) → IsTrueIn (Unary Not cond) state → IsFalseIn cond state
passes_false cond state (v, is, differs) = not_passes cond state (value_of cond state) v refl is differs

-- ---- a machine step is an edge

pub record Edged (items : List Item) (before : State) (more : List Item) (after : State) : Type 0 where
  pub place : ℕ
  pub taken : Move
  pub is : slice_get (moves_of items) place ≡ Some taken
  pub changes : Changes taken.act before after
  pub near : Near more taken.to

skips : (items : List Item) (before : State) (more : List Item) (after : State) (to : List Item)
    → slice_get (moves_of items) 0 ≡ Some (move skip to) → Near more to → after ≡ before → Edged items before more after
skips items before more after to is near same =
    record { place = 0; taken = move skip to; is = is; changes = (skip_passes before, same); near = near }

forks : (items : List Item) (before : State) (more : List Item) (after : State) (cond : Term) (on_true on_false : List Item)
    → moves_of items ≡ move (Guard cond) on_true ∷ move (unless cond) on_false ∷ []
    → Chosen cond on_true on_false before more after → Edged items before more after
forks items before more after cond on_true on_false are =
    ⊎_elim (λ p. record { place = 0; taken = move (Guard cond) on_true; is = ap (λ l. slice_get l 0) are; changes = (p.0, p.1.1); near = inl p.1.0 })
    (λ p. record { place = 1; taken = move (unless cond) on_false; is = ap (λ l. slice_get l 1) are; changes = (false_passes cond before p.0, p.1.1); near = inl p.1.0 })

tail_near : (items : List Item) → Near (to_tail items) (next_turn (to_tail items))
tail_near [] = inl refl
tail_near (Do statement ∷ items) = tail_near items
tail_near (Head loop ∷ items) = tail_near items
tail_near (Test loop ∷ items) = tail_near items
tail_near (Tail loop ∷ items) = inr refl

begin_near : (pre : Code) (cond : Term) (body step : Code) (first : Bool) (rest : List Item)
    → let loop : LoopParts = record { pre = pre; cond = cond; body = body; step = step; first = first } in Near (at_begin loop rest) (begun loop rest)
begin_near pre cond body step true rest = inl refl
begin_near pre cond body step false rest = inr refl

near_along : (to items more : List Item) → more ≡ items → Near items to → Near more to
near_along to items more same near = subst (λ x. Near x to) (sym same) near

pub edged : (items : List Item) (before : State) (more : List Item) (after : State) → Plain items before more after → Edged items before more after
edged [] before more after step = absurd step
edged (Do (Set col value) ∷ rest) before more after step = record { place = 0; taken = move (Set col value) rest; is = refl; changes = step.0; near = inl step.1 }
edged (Do (Any col) ∷ rest) before more after step = record { place = 0; taken = move (Any col) rest; is = refl; changes = step.0; near = inl step.1 }
edged (Do (Call proc args into) ∷ rest) before more after step = absurd step
edged (Do (Guard cond) ∷ rest) before more after step = record { place = 0; taken = move (Guard cond) rest; is = refl; changes = step.0; near = inl step.1 }
edged (Do (Check number cond) ∷ rest) before more after step = record { place = 0; taken = move (Guard cond) rest; is = refl; changes = step.0; near = inl step.1 }
edged (Do (If cond on_true on_false) ∷ rest) before more after step =
    forks (Do (If cond on_true on_false) ∷ rest) before more after cond (pending on_true rest) (pending on_false rest) refl step
edged (Do (Loop pre cond body step' first) ∷ rest) before more after step =
    skips (Do (Loop pre cond body step' first) ∷ rest) before more after _ refl (near_along _ _ more step.0 (begin_near pre cond body step' first rest)) step.1
edged (Do Break ∷ rest) before more after step = skips (Do Break ∷ rest) before more after (after_loop rest) refl (inl step.0) step.1
edged (Do Continue ∷ rest) before more after step =
    skips (Do Continue ∷ rest) before more after (next_turn (to_tail rest)) refl (near_along _ (to_tail rest) more step.0 (tail_near rest)) step.1
edged (Do Return ∷ rest) before more after step = skips (Do Return ∷ rest) before more after [] refl (inl step.0) step.1
edged (Head loop ∷ rest) before more after step = skips (Head loop ∷ rest) before more after (at_head loop rest) refl (inl step.0) step.1
edged (Test loop ∷ rest) before more after step = forks (Test loop ∷ rest) before more after loop.cond (pending loop.body (Tail loop ∷ rest)) rest refl step
edged (Tail loop ∷ rest) before more after step = skips (Tail loop ∷ rest) before more after (at_tail loop rest) refl (inl step.0) step.1

-- a step that is silent changes nothing, and comes to the items at the node
pub silent_step : (items to : List Item) (before : State) (more : List Item) (after : State)
    → Silent items to → Plain items before more after → (more ≡ to) × (after ≡ before)
silent_step [] to before more after none step = absurd none
silent_step (Do statement ∷ rest) to before more after none step = absurd none
silent_step (Test loop ∷ rest) to before more after none step = absurd none
silent_step (Head loop ∷ rest) to before more after is step = (step.0 ∙ sym is, step.1)
silent_step (Tail loop ∷ rest) to before more after is step = (step.0 ∙ sym is, step.1)

-- ---- lengths

pub plain_length : (items : List Item) (before : State) (more : List Item) (after : State) → Plain items before more after → length after ≡ length before
plain_length [] before more after step = absurd step
plain_length (Do (Set col value) ∷ rest) before more after ((v, is, set), there) = ap length set ∙ length-set before col v
plain_length (Do (Any col) ∷ rest) before more after ((v, set), there) = ap length set ∙ length-set before col v
plain_length (Do (Call proc args into) ∷ rest) before more after step = absurd step
plain_length (Do (Guard cond) ∷ rest) before more after step = ap length step.0.1
plain_length (Do (Check number cond) ∷ rest) before more after step = ap length step.0.1
plain_length (Do (If cond on_true on_false) ∷ rest) before more after step = ⊎_elim (λ p. ap length p.1.1) (λ p. ap length p.1.1) step
plain_length (Do (Loop pre cond body step' first) ∷ rest) before more after step = ap length step.1
plain_length (Do Break ∷ rest) before more after step = ap length step.1
plain_length (Do Continue ∷ rest) before more after step = ap length step.1
plain_length (Do Return ∷ rest) before more after step = ap length step.1
plain_length (Head loop ∷ rest) before more after step = ap length step.1
plain_length (Test loop ∷ rest) before more after step = ⊎_elim (λ p. ap length p.1.1) (λ p. ap length p.1.1) step
plain_length (Tail loop ∷ rest) before more after step = ap length step.1
