-- What an activation does is a walk, and the other way.
use Rattle.std.proofs.Common.{◌≡◌, ◌≤◌, ◌<◌, ℕ, pos, ◌-◌, Bool, true, false, Option, List, [], ◌∷◌, ◌++◌, inl, inr, refl, sym, ap, subst, ◌∙◌, arith, length, take, drop}
use Rattle.std.specs.Prelude.{slice_index_or}
use Rattle.std.proofs.lemmas.List.{length-take-le}
use Rattle.syntax_tree.specs.declared.program.Program.{Program}
use Rattle.syntax_tree.specs.Term.{Term}
use Rattle.syntax_tree.specs.Code.{Statement, Set, Any, Call, Guard, Check, If, Loop, Break, Continue, Return, Code, code_of}
use Rattle.syntax_tree.specs.Value.{State}
use Rattle.execution.specs.Machine.{Item, Do, Head, Test, Tail, LoopParts, after_loop, pending, to_tail}
use Rattle.execution.specs.Step.{Changes, at_head, at_tail}
use Rattle.execution.specs.Execution.{Returns}
use Rattle.flow_graph.specs.FlowGraph.{arc, flow_of, skip}
use Rattle.flow_graph.specs.Walks.{CallMeaning, CallRelates, EdgeRelates, Stride, Walks, state_with_value}
use Rattle.flow_graph.proofs.Each.{Each, Has, each_get}
use Rattle.flow_graph.proofs.Moves.{Move, Near, Plain, Silent, begun, edged, move, moves_of, next_turn, passes_false, plain_length, silent_step}
use Rattle.flow_graph.proofs.Does.{Calling, Does, IsCalling, Onward, Shape, Still, Through, does_fits, does_join, entry_fits, entry_of, exit_fits, exit_state, height, value_in}
use Rattle.flow_graph.proofs.Places.{At, at_one}
use Rattle.flow_graph.proofs.EdgeSteps.{Explained, Taken, body_explained}
use Rattle.flow_graph.proofs.Live.{Skips, body_lives, skips_walk}
use Rattle.flow_graph.proofs.Activations.{Entry, active, first_items, first_state, width_in}

module _ (program : Program) where
  abbrev pub DoesTo : List Item → State → List Item → State → Type 0
  DoesTo items before to after = (shape : Shape) × Does program (width_in program) shape items before to after

  abbrev pub Relates : Statement → State → State → Type 0
  Relates act before after = EdgeRelates (Returns program) (width_in program) act before after

  abbrev pub Walk : Code → ℕ → State → List Stride → ℕ → State → Type 0
  Walk body node state path last final = Walks (Returns program) (width_in program) (flow_of body).arcs node state path last final

  -- ---- an edge is what its items do

  one_step : (items : List Item) (before : State) (to : List Item) (after : State) → Plain items before to after → DoesTo items before to after
  one_step items before to after step = (Onward Still, (to, after, step, (refl, refl)))

  abbrev Moved : List Item → Move → Type 0
  Moved items taken = (before after : State) → Relates taken.act before after → DoesTo items before taken.to after

  call_moved : (proc : ℕ) (args : List Term) (into : Option ℕ) (rest : List Item) → Moved (Do (Call proc args into) ∷ rest) (move (Call proc args into) rest)
  call_moved proc args into rest before after call =
      let w = width_in program in
      let returns = call.returns in
      let acts = active program proc (take w before) call.values returns.first returns.steps call.left returns.frame returns.begins returns.runs in
      let entry = acts.entry in
      let calling : Calling = record { proc = proc; args = args; awaits = into; rest = rest; values = call.values; callee = entry.callee; others = entry.others } in
      let is : IsCalling program (Do (Call proc args into) ∷ rest) before calling =
      record { items_are = refl; values_are = call.are; is = entry.is; params = entry.params; width = entry.columns } in
      let inside = subst (λ items. Does program w acts.shape (first_items entry) (first_state entry) items acts.final) returns.done acts.does in
      let value : value_in w acts.final ≡ call.value =
      ap (λ (own : State). slice_index_or own (length own - 1) (pos 0)) acts.own_is ∙ returns.value_is in
      let same : exit_state w calling before acts.final ≡ after =
      (λ i. state_with_value into (value i) (acts.now_is i ++ drop w before)) ∙ sym call.after_is in
      (Through acts.shape Still, (calling, is, acts.final, inside, (refl, same)))

  loop_moved : (pre : Code) (cond : Term) (body step : Code) (first : Bool) (rest : List Item)
      → let loop : LoopParts = record { pre = pre; cond = cond; body = body; step = step; first = first } in
      Moved (Do (Loop pre cond body step first) ∷ rest) (move skip (begun loop rest))
  loop_moved pre cond body step true rest before after passes = one_step _ before _ after (refl, passes.1)
  loop_moved pre cond body step false rest before after passes =
      let loop : LoopParts = record { pre = pre; cond = cond; body = body; step = step; first = false } in
      (Onward (Onward Still), (Head loop ∷ rest, before, (refl, refl), (at_head loop rest, after, (refl, passes.1), (refl, refl))))

  turned : (items : List Item) (before after : State) → after ≡ before → DoesTo (to_tail items) before (next_turn (to_tail items)) after
  turned [] before after same = (Still, (refl, sym same))
  turned (Do statement ∷ items) before after same = turned items before after same
  turned (Head loop ∷ items) before after same = turned items before after same
  turned (Test loop ∷ items) before after same = turned items before after same
  turned (Tail loop ∷ items) before after same = one_step (Tail loop ∷ items) before _ after (refl, same)

  continue_moved : (rest : List Item) → Moved (Do Continue ∷ rest) (move skip (next_turn (to_tail rest)))
  continue_moved rest before after passes =
      let later = turned rest before after passes.1 in
      (Onward later.0, (to_tail rest, before, (refl, refl), later.1))

  moved : (items : List Item) → Each (Moved items) (moves_of items)
  moved [] = tt
  moved (Do (Set col value) ∷ rest) = ((λ before after changes. one_step _ before rest after (changes, refl)), tt)
  moved (Do (Any col) ∷ rest) = ((λ before after changes. one_step _ before rest after (changes, refl)), tt)
  moved (Do (Call proc args into) ∷ rest) = (call_moved proc args into rest, tt)
  moved (Do (Guard cond) ∷ rest) = ((λ before after changes. one_step _ before rest after (changes, refl)), tt)
  moved (Do (Check number cond) ∷ rest) = ((λ before after changes. one_step _ before rest after (changes, refl)), tt)
  moved (Do (If cond on_true on_false) ∷ rest) = (
    (λ before after passes. one_step (Do (If cond on_true on_false) ∷ rest) before (pending on_true rest) after (inl (passes.0, (refl, passes.1)))),
    ((λ before after passes. one_step (Do (If cond on_true on_false) ∷ rest) before (pending on_false rest) after (inr (passes_false cond before passes.0, (refl, passes.1)))), tt),
  )
  moved (Do (Loop pre cond body step first) ∷ rest) = (loop_moved pre cond body step first rest, tt)
  moved (Do Break ∷ rest) = ((λ before after passes. one_step (Do Break ∷ rest) before (after_loop rest) after (refl, passes.1)), tt)
  moved (Do Continue ∷ rest) = (continue_moved rest, tt)
  moved (Do Return ∷ rest) = ((λ before after passes. one_step (Do Return ∷ rest) before [] after (refl, passes.1)), tt)
  moved (Head loop ∷ rest) = ((λ before after passes. one_step (Head loop ∷ rest) before (at_head loop rest) after (refl, passes.1)), tt)
  moved (Test loop ∷ rest) = (
    (λ before after passes. one_step (Test loop ∷ rest) before (pending loop.body (Tail loop ∷ rest)) after (inl (passes.0, (refl, passes.1)))),
    ((λ before after passes. one_step (Test loop ∷ rest) before rest after (inr (passes_false loop.cond before passes.0, (refl, passes.1)))), tt),
  )
  moved (Tail loop ∷ rest) = ((λ before after passes. one_step (Tail loop ∷ rest) before (at_tail loop rest) after (refl, passes.1)), tt)

  by_edge : (items : List Item) (act : Statement) (to : List Item) (before after : State) → Taken items act to → Relates act before after → DoesTo items before to after
  by_edge items act to before after (inl (k, is)) relates = each_get (Moved items) (moves_of items) k (move act to) (moved items) is before after relates
  by_edge items act to before after (inr (nothing, same)) relates =
      let passes = subst (λ a. Relates a before after) nothing relates in (Still, (sym same, sym passes.1))

  -- ---- a walk is what an activation does

  pub walk_does : (body : Code) (node : ℕ) (items : List Item) (before : State) (path : List Stride) (last : ℕ) (final : State)
      → At body node items → Walk body node before path last final
      → (left : List Item) × At body last left × DoesTo items before left final
  walk_does body node items before [] last final at walk = (items, subst (λ n. At body n items) walk.0 at, (Still, (refl, walk.1)))
  walk_does body node items before (stride ∷ path) last final at (way, is, from, relates, later) =
      let why = each_get (Explained (At body)) (flow_of body).arcs stride.edge way (body_explained body) is in
      let same = at_one body node why.items items (subst (λ n. At body n why.items) from why.there) at in
      let onward = walk_does body way.to why.to stride.state path last final why.comes later in
      let first = by_edge why.items way.act why.to before stride.state why.taken relates in
      let first_here = subst (λ l. Does program (width_in program) first.0 l before why.to stride.state) same first.1 in
      let joined = does_join program (width_in program) first.0 items before why.to stride.state onward.2.0 onward.0 final first_here onward.2.1 in
      (onward.0, onward.1, joined)

-- ---- what an activation does is a walk, where calls mean what their trees do

module _ (program : Program) (calls : CallMeaning) where
  abbrev pub RelatesBy : Statement → State → State → Type 0
  RelatesBy act before after = EdgeRelates calls (width_in program) act before after

  abbrev pub WalkBy : Code → ℕ → State → List Stride → ℕ → State → Type 0
  WalkBy body node state path last final = Walks calls (width_in program) (flow_of body).arcs node state path last final

  -- calls mean what the trees that are lower do
  abbrev pub MeanTrees : ℕ → Type 0
  MeanTrees n = (inner : Shape) → height inner < n → (proc : ℕ) (globals args : State) (entry : Entry program proc globals args) (end : State)
      → Does program (width_in program) inner (first_items entry) (first_state entry) [] end
      → calls proc globals args (take (width_in program) end) (value_in (width_in program) end)

  relates_change : (act : Statement) (before after : State) → Changes act before after → RelatesBy act before after
  relates_change (Set col value) before after changes = changes
  relates_change (Any col) before after changes = changes
  relates_change (Call proc args into) before after changes = absurd changes
  relates_change (Guard cond) before after changes = changes
  relates_change (Check number cond) before after changes = changes
  relates_change (If cond on_true on_false) before after changes = changes
  relates_change (Loop pre cond body step first) before after changes = changes
  relates_change Break before after changes = changes
  relates_change Continue before after changes = changes
  relates_change Return before after changes = changes

  pub walk_join : (body : Code) (node : ℕ) (before : State) (path : List Stride) (between : ℕ) (middle : State) (second : List Stride) (last : ℕ) (final : State)
      → WalkBy body node before path between middle → WalkBy body between middle second last final → WalkBy body node before (path ++ second) last final
  walk_join body node before [] between middle second last final one other =
      subst (λ n. WalkBy body n before second last final) (sym one.0) (subst (λ s. WalkBy body between s second last final) (sym one.1) other)
  walk_join body node before (stride ∷ path) between middle second last final (way, is, from, relates, later) other =
      (way, is, from, relates, walk_join body way.to stride.state path between middle second last final later other)

  -- a walk to a node that has these items, or items that are one silent step behind them
  pub record WalksNear (body : Code) (node : ℕ) (before : State) (last : List Item) (final : State) : Type 0 where
    pub end : ℕ
    pub path : List Stride
    pub walk : WalkBy body node before path end final
    pub left : List Item
    pub at : At body end left
    pub near : Near last left

  -- along the edges that do nothing, one edge, and on
  stride_on : (body : Code) (node at to : ℕ) (skipped : List ℕ) (act : Statement) (before after : State) (last : List Item) (final : State)
      → Skips (flow_of body).arcs node skipped at → Has (flow_of body).arcs (arc at to act) → RelatesBy act before after
      → WalksNear body to after last final → WalksNear body node before last final
  stride_on body node at to skipped act before after last final skips (k, is) relates onward =
      let start = skips_walk calls (width_in program) (flow_of body).arcs node skipped at before skips in
      let step : WalkBy body at before (record { edge = k; state = after } ∷ onward.path) onward.end final = (arc at to act, is, refl, relates, onward.walk) in
      record {
        end = onward.end;
        path = start.0 ++ record { edge = k; state = after } ∷ onward.path;
        walk = walk_join body node before start.0 at before (record { edge = k; state = after } ∷ onward.path) onward.end final start.1 step;
        left = onward.left;
        at = onward.at;
        near = onward.near;
      }

  from_state : (body : Code) (node : ℕ) (before after : State) (last : List Item) (final : State) → after ≡ before
      → WalksNear body node after last final → WalksNear body node before last final
  from_state body node before after last final same walks = subst (λ s. WalksNear body node s last final) same walks

  calling_near : (call : Calling) (items to : List Item) → items ≡ Do (Call call.proc call.args call.awaits) ∷ call.rest → Near items to
      → Do (Call call.proc call.args call.awaits) ∷ call.rest ≡ to
  calling_near call items to are (inl same) = sym are ∙ same
  calling_near call items to are (inr silent) = absurd (subst (λ l. Silent l to) are silent)

  pub does_walk : (n : ℕ) → MeanTrees n → (body : Code) (shape : Shape) (items : List Item) (before : State) (last : List Item) (final : State) (node : ℕ) (to : List Item)
      → width_in program ≤ length before → Does program (width_in program) shape items before last final
      → height shape ≤ n → At body node to → Near items to → WalksNear body node before last final
  does_walk n mean body Still items before last final node to fits does low at near =
      record { end = node; path = []; walk = (refl, does.1); left = to; at = at; near = subst (λ l. Near l to) does.0 near }
  does_walk n mean body (Onward more) items before last final node to fits (next, after, step, later) low at (inr silent) =
      let same = silent_step items to before next after silent step in
      let length_same = plain_length items before next after step in
      let there : width_in program ≤ length after = omega arith in
      from_state body node before after last final same.1 (does_walk n mean body more next after last final node to there later low at (inl same.0))
  does_walk n mean body (Onward more) items before last final node to fits (next, after, step, later) low at (inl here) =
      let taken = edged items before next after step in
      let live = body_lives body node items (subst (λ l. At body node l) (sym here) at) in
      let leads = each_get _ (moves_of items) taken.place taken.taken live.leads taken.is in
      let length_same = plain_length items before next after step in
      let there : width_in program ≤ length after = omega arith in
      stride_on body node live.at leads.0 live.path taken.taken.act before after last final live.skips leads.1
      (relates_change taken.taken.act before after taken.changes)
      (does_walk n mean body more next after last final leads.0 taken.taken.to there later low leads.2 taken.near)
  does_walk n mean body (Through inner more) items before last final node to fits (call, is, end, inside, later) low at near =
      let w = width_in program in
      let lower : height inner < n = omega arith in
      let others : height more ≤ n = omega arith in
      let here = calling_near call items to is.items_are near in
      let live = body_lives body node (Do (Call call.proc call.args call.awaits) ∷ call.rest) (subst (λ l. At body node l) (sym here) at) in
      let leads = live.leads.0 in
      let entry : Entry program call.proc (take w before) call.values =
      record { width = length-take-le w before fits; callee = call.callee; is = is.is; params = is.params; others = call.others; columns = is.width } in
      let ended = does_fits program w inner (pending (code_of call.callee.body) []) (entry_of w call before) [] end inside (entry_fits program w call before fits) in
      let after = exit_state w call before end in
      let relates : CallRelates calls w call.proc call.args call.awaits before after = record {
        values = call.values;
        are = is.values_are;
        left = take w end;
        value = value_in w end;
        returns = mean inner lower call.proc (take w before) call.values entry end inside;
        after_is = refl;
      } in
      stride_on body node live.at leads.0 live.path (Call call.proc call.args call.awaits) before after last final live.skips leads.1 relates
      (does_walk n mean body more call.rest after last final leads.0 call.rest (exit_fits program w call before end ended) later others leads.2 (inl refl))
