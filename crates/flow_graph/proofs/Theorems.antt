-- The laws of `specs/Laws`.
use Rattle.std.proofs.Common.{◌≡◌, ◌<◌, ℕ, ℤ, Option, Some, None, List, [], ◌∷◌, ◌++◌, inl, inr, refl, sym, ap, subst, ◌∙◌, arith, length, take, drop}
use Rattle.std.specs.Prelude.{◌-◌, pos, slice_get, slice_index_or}
use Rattle.std.proofs.lemmas.List.{take-append-drop}
use Rattle.syntax_tree.specs.declared.program.Proc.{Proc}
use Rattle.syntax_tree.specs.declared.program.Program.{Program}
use Rattle.syntax_tree.specs.Term.{Term}
use Rattle.syntax_tree.specs.Code.{Statement, Set, Any, Call, Guard, Check, If, Loop, Break, Continue, Return, code_of}
use Rattle.syntax_tree.specs.Value.{State}
use Rattle.execution.specs.Machine.{Item, Do, Head, Test, Tail}
use Rattle.execution.specs.Execution.{Returns}
use Rattle.flow_graph.specs.FlowGraph.{Arc, CheckPlace, body_of, exit_of, flow_of, graph_of}
use Rattle.flow_graph.specs.Walks.{Stands, Stride, WalksTo}
use Rattle.flow_graph.specs.Laws.{CallsAreWalks, ChecksAreWalks, ReturnsAreWalks, last_of}
use Rattle.flow_graph.specs.Pending.{CallsAreEdges}
use Rattle.flow_graph.proofs.Each.{Each, each_get}
use Rattle.flow_graph.proofs.Moves.{Move, Near, move, moves_of}
use Rattle.flow_graph.proofs.Does.{Does, Shape, height, value_in}
use Rattle.flow_graph.proofs.Places.{At, at_one, body_placed, start}
use Rattle.flow_graph.proofs.EdgeSteps.{Checked, Explained, Taken, body_checked, body_explained}
use Rattle.flow_graph.proofs.Live.{LivesIn, body_lives, skips_walk}
use Rattle.flow_graph.proofs.Activations.{Entry, active, does_length, does_returns, entry_wide, executed, first_items, first_state, last_value, width_in}
use Rattle.flow_graph.proofs.Walking.{DoesTo, MeanTrees, Walk, does_walk, walk_does, walk_join}

-- an edge that is a call begins where the call is the first item
abbrev CallFirst : List Item → Move → Type 0
CallFirst items taken = (proc : ℕ) (args : List Term) (into : Option ℕ) → taken.act ≡ Call proc args into → items ≡ Do (Call proc args into) ∷ taken.to

no_call : (items to : List Item) (cond : Term) (proc : ℕ) (args : List Term) (into : Option ℕ) → Guard cond ≡ Call proc args into → items ≡ Do (Call proc args into) ∷ to
no_call items to cond proc args into e = absurd (cc e)

calls_first : (items : List Item) → Each (CallFirst items) (moves_of items)
calls_first [] = tt
calls_first (Do (Set col value) ∷ rest) = ((λ proc args into e. absurd (cc e)), tt)
calls_first (Do (Any col) ∷ rest) = ((λ proc args into e. absurd (cc e)), tt)
calls_first (Do (Call callee values awaits) ∷ rest) = ((λ proc args into e. ap (λ s. Do s ∷ rest) e), tt)
calls_first (Do (Guard cond) ∷ rest) = ((λ proc args into e. no_call _ _ _ proc args into e), tt)
calls_first (Do (Check number cond) ∷ rest) = ((λ proc args into e. no_call _ _ _ proc args into e), tt)
calls_first (Do (If cond on_true on_false) ∷ rest) = ((λ proc args into e. no_call _ _ _ proc args into e), ((λ proc args into e. no_call _ _ _ proc args into e), tt))
calls_first (Do (Loop pre cond body step first) ∷ rest) = ((λ proc args into e. no_call _ _ _ proc args into e), tt)
calls_first (Do Break ∷ rest) = ((λ proc args into e. no_call _ _ _ proc args into e), tt)
calls_first (Do Continue ∷ rest) = ((λ proc args into e. no_call _ _ _ proc args into e), tt)
calls_first (Do Return ∷ rest) = ((λ proc args into e. no_call _ _ _ proc args into e), tt)
calls_first (Head loop ∷ rest) = ((λ proc args into e. no_call _ _ _ proc args into e), tt)
calls_first (Test loop ∷ rest) = ((λ proc args into e. no_call _ _ _ proc args into e), ((λ proc args into e. no_call _ _ _ proc args into e), tt))
calls_first (Tail loop ∷ rest) = ((λ proc args into e. no_call _ _ _ proc args into e), tt)

only_call : (items : List Item) (act : Statement) (to : List Item) (proc : ℕ) (args : List Term) (into : Option ℕ)
    → Taken items act to → act ≡ Call proc args into → items ≡ Do (Call proc args into) ∷ to
only_call items act to proc args into (inl (k, is)) e = each_get (CallFirst items) (moves_of items) k (move act to) (calls_first items) is proc args into e
only_call items act to proc args into (inr (nothing, same)) e = no_call items to _ proc args into (sym nothing ∙ e)

module _ (program : Program) (proc : ℕ) (globals args : State) where
  pub entry_place : (entry : Entry program proc globals args) → At (code_of entry.callee.body) 0 (first_items entry)
  entry_place entry =
      start (At (code_of entry.callee.body)) 0 (code_of entry.callee.body) [] (body_placed (code_of entry.callee.body)).0

  -- ---- a walk of the procedure's graph, and of its body's

  pub record WalkOf (node : ℕ) (final : State) : Type 0 where
    pub entry : Entry program proc globals args
    pub path : List Stride
    pub walk : Walk program (code_of entry.callee.body) 0 (first_state entry) path node final

  walks_to : (node : ℕ) (final : State) → WalkOf node final → WalksTo program proc globals args node final
  walks_to node final walks =
      let entry = walks.entry in
      record {
        width = entry.width;
        callee = entry.callee;
        is = entry.is;
        params = entry.params;
        others = entry.others;
        columns = entry.columns;
        path = walks.path;
        walk = subst (λ (found : Option Proc). Walk program (body_of found) 0 (first_state entry) walks.path node final) (sym entry.is) walks.walk;
      }

  walk_of : (node : ℕ) (final : State) → WalksTo program proc globals args node final → WalkOf node final
  walk_of node final walks =
      record {
        entry = record { width = walks.width; callee = walks.callee; is = walks.is; params = walks.params; others = walks.others; columns = walks.columns };
        path = walks.path;
        walk = subst (λ (found : Option Proc). Walk program (body_of found) 0 (globals ++ (args ++ walks.others)) walks.path node final) walks.is walks.walk;
      }

  -- ---- what an activation does comes to a node

  pub record Arrived (items : List Item) (final : State) : Type 0 where
    pub entry : Entry program proc globals args
    pub node : ℕ
    pub path : List Stride
    pub walk : Walk program (code_of entry.callee.body) 0 (first_state entry) path node final
    pub left : List Item
    pub at : At (code_of entry.callee.body) node left
    pub near : Near items left

  trees_return : {n : ℕ} → MeanTrees program (Returns program) n
  trees_return inner lower proc globals args entry end does = does_returns program proc globals args entry inner end does

  arrived : (entry : Entry program proc globals args) (shape : Shape) (items : List Item) (final : State)
      → Does program (width_in program) shape (first_items entry) (first_state entry) items final → Arrived items final
  arrived entry shape items final does =
      let walks = does_walk program (Returns program) (height shape) trees_return (code_of entry.callee.body) shape (first_items entry) (first_state entry) items final
      0 (first_items entry) (entry_wide program proc globals args entry).0 does (omega arith) (entry_place entry) (inl refl) in
      record { entry = entry; node = walks.end; path = walks.path; walk = walks.walk; left = walks.left; at = walks.at; near = walks.near }

  -- on to the node where the first item is done
  pub record Lived (items : List Item) (final : State) : Type 0 where
    pub entry : Entry program proc globals args
    pub node : ℕ
    pub live : LivesIn (code_of entry.callee.body) node items
    pub path : List Stride
    pub walk : Walk program (code_of entry.callee.body) 0 (first_state entry) path live.at final

  lived : (items : List Item) (final : State) → (here : Arrived items final) → items ≡ here.left → Lived items final
  lived items final here same =
      let body = code_of here.entry.callee.body in
      let live = body_lives body here.node items (subst (λ l. At body here.node l) (sym same) here.at) in
      let on = skips_walk (Returns program) (width_in program) (flow_of body).arcs here.node live.path live.at final live.skips in
      record {
        entry = here.entry;
        node = here.node;
        live = live;
        path = here.path ++ on.0;
        walk = walk_join program (Returns program) body 0 (first_state here.entry) here.path here.node final on.0 live.at final here.walk on.1;
      }

  -- ---- an activation stands where it has come to

  done_by : (items : List Item) (final : State) → Stands program proc globals args items final
      → (entry : Entry program proc globals args) × (shape : Shape) × Does program (width_in program) shape (first_items entry) (first_state entry) items final
  done_by items final stands =
      let acts = active program proc globals args stands.first stands.steps stands.now stands.frame stands.begins stands.runs in
      let whole : acts.final ≡ final =
      sym (take-append-drop (width_in program) acts.final) ∙ (λ i. acts.now_is i ++ acts.own_is i) ∙ stands.state_is in (
        acts.entry,
        acts.shape,
        subst (λ s. Does program (width_in program) acts.shape (first_items acts.entry) (first_state acts.entry) items s) whole
            (subst (λ l. Does program (width_in program) acts.shape (first_items acts.entry) (first_state acts.entry) l acts.final) stands.items_are acts.does),
      )

  pub stands_by : (entry : Entry program proc globals args) (shape : Shape) (items : List Item) (final : State)
      → Does program (width_in program) shape (first_items entry) (first_state entry) items final → Stands program proc globals args items final
  stands_by entry shape items final does =
      let run = executed program proc globals args entry shape items final does in
      record {
        first = run.first;
        begins = run.begins;
        steps = run.steps;
        now = take (width_in program) final;
        frame = record { proc = proc; own = drop (width_in program) final; items = items; into = None };
        runs = run.runs;
        items_are = refl;
        state_is = take-append-drop (width_in program) final;
      }

  -- a walk comes to the items at its end
  came_to : (node : ℕ) (final : State) (walks : WalkOf node final) (items : List Item) → At (code_of walks.entry.callee.body) node items
      → DoesTo program (first_items walks.entry) (first_state walks.entry) items final
  came_to node final walks items at =
      let body = code_of walks.entry.callee.body in
      let does = walk_does program body 0 (first_items walks.entry) (first_state walks.entry) walks.path node final (entry_place walks.entry) walks.walk in
      let same = at_one body node does.0 items does.1 at in
      (does.2.0, subst (λ l. Does program (width_in program) does.2.0 (first_items walks.entry) (first_state walks.entry) l final) same does.2.1)

  first_do : (statement : Statement) (rest : List Item) (to : List Item) → Near (Do statement ∷ rest) to → Do statement ∷ rest ≡ to
  first_do statement rest to (inl same) = same
  first_do statement rest to (inr silent) = absurd silent

  pub no_items : (to : List Item) → Near [] to → [] ≡ to
  no_items to (inl same) = same
  no_items to (inr silent) = absurd silent

  walks_to_lived : (items : List Item) (final : State) → (there : Lived items final) → WalksTo program proc globals args there.live.at final
  walks_to_lived items final there = walks_to there.live.at final (record { entry = there.entry; path = there.path; walk = there.walk })

  -- ---- returns

  pub exit_is : (callee : Proc) → slice_get program.procs proc ≡ Some callee → exit_of (code_of callee.body) ≡ exit_of (body_of (slice_get program.procs proc))
  exit_is callee is = ap (λ (found : Option Proc). exit_of (body_of found)) (sym is)

  pub wide_at_end : (entry : Entry program proc globals args) (shape : Shape) (items : List Item) (final : State)
      → Does program (width_in program) shape (first_items entry) (first_state entry) items final → width_in program < length final
  wide_at_end entry shape items final does =
      let wide = entry_wide program proc globals args entry in
      let same = does_length program (width_in program) shape (first_items entry) (first_state entry) items final does wide.0 in
      let more = wide.1 in omega arith

  pub WalksOut : State → ℤ → Type 0
  WalksOut after value = (final : State)
      × WalksTo program proc globals args (exit_of (body_of (slice_get program.procs proc))) final
      × (take (length program.globals) final ≡ after) × (last_of final ≡ value)

  pub returns_walk : (after : State) (value : ℤ) → Returns program proc globals args after value → WalksOut after value
  unfolding WalksOut
  returns_walk after value returns =
      let acts = active program proc globals args returns.first returns.steps after returns.frame returns.begins returns.runs in
      let w = width_in program in
      let does = subst (λ l. Does program w acts.shape (first_items acts.entry) (first_state acts.entry) l acts.final) returns.done acts.does in
      let here = arrived acts.entry acts.shape [] acts.final does in
      let there = lived [] acts.final here (no_items here.left here.near) in
      let exit : there.live.at ≡ exit_of (body_of (slice_get program.procs proc)) = there.live.marked ∙ exit_is there.entry.callee there.entry.is in
      let walks = walks_to_lived [] acts.final there in
      let last : last_of acts.final ≡ value =
      sym (last_value w acts.final (wide_at_end acts.entry acts.shape [] acts.final does))
      ∙ ap (λ (own : State). slice_index_or own (length own - 1) (pos 0)) acts.own_is ∙ returns.value_is in
      (acts.final, subst (λ node. WalksTo program proc globals args node acts.final) exit walks, acts.now_is, last)

  pub walk_returns : (after : State) (value : ℤ) → WalksOut after value → Returns program proc globals args after value
  unfolding WalksOut
  walk_returns after value (final, walks_out, now_is, last_is) =
      let w = width_in program in
      let walks = walk_of (exit_of (body_of (slice_get program.procs proc))) final walks_out in
      let entry = walks.entry in
      let body = code_of entry.callee.body in
      let at : At body (exit_of (body_of (slice_get program.procs proc))) [] = subst (λ node. At body node []) (exit_is entry.callee entry.is) (body_placed body).1 in
      let does = came_to (exit_of (body_of (slice_get program.procs proc))) final walks [] at in
      let value_is : value_in w final ≡ value = last_value w final (wide_at_end entry does.0 [] final does.1) ∙ last_is in
      subst (λ v. Returns program proc globals args after v) value_is
      (subst (λ g. Returns program proc globals args g (value_in w final)) now_is (does_returns program proc globals args entry does.0 final does.1))

  -- ---- assertions

  found_checks : (callee : Proc) → slice_get program.procs proc ≡ Some callee → (flow_of (code_of callee.body)).checks ≡ (graph_of program proc).checks
  found_checks callee is = ap (λ (found : Option Proc). (flow_of (body_of found)).checks) (sym is)

  found_arcs : (callee : Proc) → slice_get program.procs proc ≡ Some callee → (flow_of (code_of callee.body)).arcs ≡ (graph_of program proc).arcs
  found_arcs callee is = ap (λ (found : Option Proc). (flow_of (body_of found)).arcs) (sym is)

  pub CheckWalks : ℕ → Term → State → Type 0
  CheckWalks number cond final = (at : CheckPlace) × (k : ℕ)
      × (slice_get (graph_of program proc).checks k ≡ Some at) × (at.number ≡ number) × (at.cond ≡ cond)
      × WalksTo program proc globals args at.node final

  pub check_walks : (number : ℕ) (cond : Term) (final : State) → (rest : List Item) × Stands program proc globals args (Do (Check number cond) ∷ rest) final → CheckWalks number cond final
  unfolding CheckWalks
  check_walks number cond final (rest, stands) =
      let done = done_by (Do (Check number cond) ∷ rest) final stands in
      let here = arrived done.0 done.1 (Do (Check number cond) ∷ rest) final done.2 in
      let there = lived (Do (Check number cond) ∷ rest) final here (first_do (Check number cond) rest here.left here.near) in
      let marked = there.live.marked in
      let at : CheckPlace = record { node = there.live.at; number = number; cond = cond } in (
        at,
        marked.0,
        subst (λ l. slice_get l marked.0 ≡ Some at) (found_checks there.entry.callee there.entry.is) marked.1,
        refl,
        refl,
        walks_to_lived (Do (Check number cond) ∷ rest) final there,
      )

  pub walk_checks : (number : ℕ) (cond : Term) (final : State) → CheckWalks number cond final → (rest : List Item) × Stands program proc globals args (Do (Check number cond) ∷ rest) final
  unfolding CheckWalks
  walk_checks number cond final (at, k, is, number_is, cond_is, walks_there) =
      let walks = walk_of at.node final walks_there in
      let entry = walks.entry in
      let body = code_of entry.callee.body in
      let there = subst (λ l. slice_get l k ≡ Some at) (sym (found_checks entry.callee entry.is)) is in
      let checked = each_get (Checked (At body)) (flow_of body).checks k at (body_checked body) there in
      let does = came_to at.node final walks (Do (Check at.number at.cond) ∷ checked.0) checked.1 in
      let stands = stands_by entry does.0 (Do (Check at.number at.cond) ∷ checked.0) final does.1 in (
        checked.0,
        subst (λ n. Stands program proc globals args (Do (Check n cond) ∷ checked.0) final) number_is
            (subst (λ e. Stands program proc globals args (Do (Check at.number e) ∷ checked.0) final) cond_is stands),
      )

  -- ---- calls

  pub CallWalks : ℕ → List Term → Option ℕ → State → Type 0
  CallWalks callee values into final = (way : Arc) × (k : ℕ)
      × (slice_get (graph_of program proc).arcs k ≡ Some way) × (way.act ≡ Call callee values into)
      × WalksTo program proc globals args way.from final

  pub call_walks : (callee : ℕ) (values : List Term) (into : Option ℕ) (final : State)
      → (rest : List Item) × Stands program proc globals args (Do (Call callee values into) ∷ rest) final → CallWalks callee values into final
  unfolding CallWalks
  call_walks callee values into final (rest, stands) =
      let items : List Item = Do (Call callee values into) ∷ rest in
      let done = done_by items final stands in
      let here = arrived done.0 done.1 items final done.2 in
      let there = lived items final here (first_do (Call callee values into) rest here.left here.near) in
      let leads = there.live.leads.0 in
      let way : Arc = record { from = there.live.at; to = leads.0; act = Call callee values into } in (
        way,
        leads.1.0,
        subst (λ l. slice_get l leads.1.0 ≡ Some way) (found_arcs there.entry.callee there.entry.is) leads.1.1,
        refl,
        walks_to_lived items final there,
      )

  pub walk_calls : (callee : ℕ) (values : List Term) (into : Option ℕ) (final : State)
      → CallWalks callee values into final → (rest : List Item) × Stands program proc globals args (Do (Call callee values into) ∷ rest) final
  unfolding CallWalks
  walk_calls callee values into final (way, k, is, act_is, walks_there) =
      let walks = walk_of way.from final walks_there in
      let entry = walks.entry in
      let body = code_of entry.callee.body in
      let there = subst (λ l. slice_get l k ≡ Some way) (sym (found_arcs entry.callee entry.is)) is in
      let why = each_get (Explained (At body)) (flow_of body).arcs k way (body_explained body) there in
      let items : List Item = Do (Call callee values into) ∷ why.to in
      let at = subst (λ l. At body way.from l) (only_call why.items way.act why.to callee values into why.taken act_is) why.there in
      let does = came_to way.from final walks items at in
      (why.to, stands_by entry does.0 items final does.1)

  -- .. each by its edge
  pub EdgeWalks : ℕ → List Term → Option ℕ → List Item → State → Type 0
  EdgeWalks callee values into rest final = (way : Arc) × (k : ℕ)
      × (slice_get (graph_of program proc).arcs k ≡ Some way) × (way.act ≡ Call callee values into)
      × At (body_of (slice_get program.procs proc)) way.to rest × WalksTo program proc globals args way.from final

  found_at : (callee : Proc) (node : ℕ) (items : List Item) → slice_get program.procs proc ≡ Some callee
      → At (code_of callee.body) node items → At (body_of (slice_get program.procs proc)) node items
  found_at callee node items is at = subst (λ (found : Option Proc). At (body_of found) node items) (sym is) at

  at_found : (callee : Proc) (node : ℕ) (items : List Item) → slice_get program.procs proc ≡ Some callee
      → At (body_of (slice_get program.procs proc)) node items → At (code_of callee.body) node items
  at_found callee node items is at = subst (λ (found : Option Proc). At (body_of found) node items) is at

  pub edge_walks : (callee : ℕ) (values : List Term) (into : Option ℕ) (rest : List Item) (final : State)
      → Stands program proc globals args (Do (Call callee values into) ∷ rest) final → EdgeWalks callee values into rest final
  unfolding EdgeWalks
  edge_walks callee values into rest final stands =
      let items : List Item = Do (Call callee values into) ∷ rest in
      let done = done_by items final stands in
      let here = arrived done.0 done.1 items final done.2 in
      let there = lived items final here (first_do (Call callee values into) rest here.left here.near) in
      let leads = there.live.leads.0 in
      let way : Arc = record { from = there.live.at; to = leads.0; act = Call callee values into } in (
        way,
        leads.1.0,
        subst (λ l. slice_get l leads.1.0 ≡ Some way) (found_arcs there.entry.callee there.entry.is) leads.1.1,
        refl,
        found_at there.entry.callee leads.0 rest there.entry.is leads.2,
        walks_to_lived items final there,
      )

  pub walk_edges : (callee : ℕ) (values : List Term) (into : Option ℕ) (rest : List Item) (final : State)
      → EdgeWalks callee values into rest final → Stands program proc globals args (Do (Call callee values into) ∷ rest) final
  unfolding EdgeWalks
  walk_edges callee values into rest final (way, k, is, act_is, left, walks_there) =
      let walks = walk_of way.from final walks_there in
      let entry = walks.entry in
      let body = code_of entry.callee.body in
      let there = subst (λ l. slice_get l k ≡ Some way) (sym (found_arcs entry.callee entry.is)) is in
      let why = each_get (Explained (At body)) (flow_of body).arcs k way (body_explained body) there in
      let same = at_one body way.to why.to rest why.comes (at_found entry.callee way.to rest entry.is left) in
      let items : List Item = Do (Call callee values into) ∷ why.to in
      let at = subst (λ l. At body way.from l) (only_call why.items way.act why.to callee values into why.taken act_is) why.there in
      let does = came_to way.from final walks items at in
      subst (λ l. Stands program proc globals args (Do (Call callee values into) ∷ l) final) same (stands_by entry does.0 items final does.1)

pub returns_are_walks : ReturnsAreWalks
unfolding WalksOut
returns_are_walks program proc globals args after value =
    (returns_walk program proc globals args after value, walk_returns program proc globals args after value)

pub checks_are_walks : ChecksAreWalks
unfolding CheckWalks
checks_are_walks program proc globals args number cond final =
    (check_walks program proc globals args number cond final, walk_checks program proc globals args number cond final)

pub calls_are_walks : CallsAreWalks
unfolding CallWalks
calls_are_walks program proc globals args callee values into final =
    (call_walks program proc globals args callee values into final, walk_calls program proc globals args callee values into final)

pub calls_are_edges : CallsAreEdges
unfolding EdgeWalks
calls_are_edges program proc globals args callee values into rest final =
    (edge_walks program proc globals args callee values into rest final, walk_edges program proc globals args callee values into rest final)
