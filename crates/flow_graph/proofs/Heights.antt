-- What returns has a tree of calls, and induction on its height.
use Rattle.std.proofs.Common.{◌≡◌, ◌≤◌, ℕ, zero, suc, ℤ, pos, ◌-◌, Option, List, [], ◌∷◌, ◌++◌, inl, refl, sym, ap, subst, ◌∙◌, arith, length, take}
use Rattle.std.specs.Prelude.{slice_get, slice_index_or}
use Rattle.syntax_tree.specs.declared.program.Proc.{Proc}
use Rattle.syntax_tree.specs.declared.program.Program.{Program}
use Rattle.syntax_tree.specs.Code.{Statement, Set, Any, Call, Guard, Check, If, Loop, Break, Continue, Return, code_of}
use Rattle.syntax_tree.specs.Value.{State}
use Rattle.execution.specs.Execution.{Returns}
use Rattle.flow_graph.specs.FlowGraph.{Arc, body_of, exit_of, flow_of, graph_of}
use Rattle.flow_graph.specs.Heights.{HeightsGrow, ReturnsHaveHeights, ReturnsOver, ReturnsWithin}
use Rattle.flow_graph.specs.Walks.{CallMeaning, EdgeRelates, Stride, Walks}
use Rattle.flow_graph.proofs.Does.{Does, Shape, height, value_in}
use Rattle.flow_graph.proofs.Places.{At}
use Rattle.flow_graph.proofs.Live.{body_lives, skips_walk}
use Rattle.flow_graph.proofs.Activations.{Entry, active, entry_wide, first_items, first_state, last_value, width_in}
use Rattle.flow_graph.proofs.Walking.{MeanTrees, WalkBy, does_walk, walk_join}
use Rattle.flow_graph.proofs.Theorems.{entry_place, exit_is, no_items, returns_are_walks, wide_at_end}

-- ---- calls that mean more

abbrev Implies : CallMeaning → CallMeaning → Type 0
Implies calls others = (proc : ℕ) (globals args after : State) (value : ℤ) → calls proc globals args after value → others proc globals args after value

module _ (calls others : CallMeaning) (implies : Implies calls others) where
  relates-more : (globals : ℕ) (act : Statement) (before after : State) → EdgeRelates calls globals act before after → EdgeRelates others globals act before after
  relates-more globals (Call proc args into) before after call = record {
    values = call.values;
    are = call.are;
    left = call.left;
    value = call.value;
    returns = implies proc (take globals before) call.values call.left call.value call.returns;
    after_is = call.after_is;
  }
  relates-more globals (Set col value) before after relates = relates
  relates-more globals (Any col) before after relates = relates
  relates-more globals (Guard cond) before after relates = relates
  relates-more globals (Check number cond) before after relates = relates
  relates-more globals (If cond on_true on_false) before after relates = relates
  relates-more globals (Loop pre cond body step first) before after relates = relates
  relates-more globals Break before after relates = relates
  relates-more globals Continue before after relates = relates
  relates-more globals Return before after relates = relates

  walks-more : (globals : ℕ) (arcs : List Arc) (node : ℕ) (state : State) (path : List Stride) (last : ℕ) (final : State)
      → Walks calls globals arcs node state path last final → Walks others globals arcs node state path last final
  walks-more globals arcs node state [] last final walk = walk
  walks-more globals arcs node state (stride ∷ path) last final (way, is, from, relates, later) =
      (way, is, from, relates-more globals way.act state stride.state relates, walks-more globals arcs way.to stride.state path last final later)

  pub returns-more : (program : Program) (proc : ℕ) (globals args after : State) (value : ℤ)
      → ReturnsOver calls program proc globals args after value → ReturnsOver others program proc globals args after value
  returns-more program proc globals args after value r = record {
    width = r.width;
    callee = r.callee;
    is = r.is;
    params = r.params;
    others = r.others;
    columns = r.columns;
    path = r.path;
    final = r.final;
    walk = walks-more (length program.globals) (graph_of program proc).arcs 0 (globals ++ (args ++ r.others)) r.path _ r.final r.walk;
    after_is = r.after_is;
    value_is = r.value_is;
  }

-- ---- induction on the height of the tree

pub returns-by_height : (program : Program) (property : CallMeaning)
    → ((proc : ℕ) (globals args after : State) (value : ℤ) → ReturnsOver property program proc globals args after value → property proc globals args after value)
    → (n : ℕ) → Implies (ReturnsWithin program n) property
returns-by_height program property step zero proc globals args after value none = absurd none
returns-by_height program property step (suc n) proc globals args after value r =
    step proc globals args after value
    (returns-more (ReturnsWithin program n) property (returns-by_height program property step n) program proc globals args after value r)

grow-one : (program : Program) (n : ℕ) → Implies (ReturnsWithin program n) (ReturnsWithin program (suc n))
grow-one program zero proc globals args after value none = absurd none
grow-one program (suc n) proc globals args after value r =
    returns-more (ReturnsWithin program n) (ReturnsWithin program (suc n)) (grow-one program n) program proc globals args after value r

pub heights_grow : HeightsGrow
heights_grow program zero m proc globals args after value le none = absurd none
heights_grow program (suc n) zero proc globals args after value le r = absurd (omega arith)
heights_grow program (suc n) (suc m) proc globals args after value le r =
    returns-more (ReturnsWithin program n) (ReturnsWithin program m) (λ p g a l v. heights_grow program n m p g a l v (omega arith)) program proc globals args after value r

-- ---- a tree returns over a walk

module _ (program : Program) where
  tree-returns : (calls : CallMeaning) (n : ℕ) → MeanTrees program calls n → (proc : ℕ) (globals args : State) (entry : Entry program proc globals args) (shape : Shape) (final : State)
      → height shape ≤ n → Does program (width_in program) shape (first_items entry) (first_state entry) [] final
      → ReturnsOver calls program proc globals args (take (width_in program) final) (value_in (width_in program) final)
  tree-returns calls n mean proc globals args entry shape final low does =
      let body = code_of entry.callee.body in
      let walks = does_walk program calls n mean body shape (first_items entry) (first_state entry) [] final 0 (first_items entry)
      (entry_wide program proc globals args entry).0 does low (entry_place program proc globals args entry) (inl refl) in
      let live = body_lives body walks.end [] (subst (λ l. At body walks.end l) (sym (no_items program proc globals args walks.left walks.near)) walks.at) in
      let on = skips_walk calls (width_in program) (flow_of body).arcs walks.end live.path live.at final live.skips in
      let whole = walk_join program calls body 0 (first_state entry) walks.path walks.end final on.0 live.at final walks.walk on.1 in
      let found : Option Proc = slice_get program.procs proc in
      let here = subst (λ (o : Option Proc). WalkBy program calls (body_of o) 0 (first_state entry) (walks.path ++ on.0) live.at final) (sym entry.is) whole in
      let exit : live.at ≡ exit_of (body_of found) = live.marked ∙ exit_is program proc globals args entry.callee entry.is in
      record {
        width = entry.width;
        callee = entry.callee;
        is = entry.is;
        params = entry.params;
        others = entry.others;
        columns = entry.columns;
        path = walks.path ++ on.0;
        final = final;
        walk = subst (λ node. WalkBy program calls (body_of found) 0 (first_state entry) (walks.path ++ on.0) node final) exit here;
        after_is = refl;
        value_is = sym (last_value (width_in program) final (wide_at_end program proc globals args entry shape [] final does));
      }

  trees-mean : (n : ℕ) → MeanTrees program (ReturnsWithin program n) n
  trees-mean zero inner lower proc globals args entry end does = absurd (omega arith)
  trees-mean (suc n) inner lower proc globals args entry end does =
      tree-returns (ReturnsWithin program n) n (trees-mean n) proc globals args entry inner end (omega arith) does

  pub returns-within : (proc : ℕ) (globals args after : State) (value : ℤ) → Returns program proc globals args after value
      → (n : ℕ) × ReturnsWithin program n proc globals args after value
  returns-within proc globals args after value returns =
      let acts = active program proc globals args returns.first returns.steps after returns.frame returns.begins returns.runs in
      let w = width_in program in
      let does = subst (λ l. Does program w acts.shape (first_items acts.entry) (first_state acts.entry) l acts.final) returns.done acts.does in
      let n = height acts.shape in
      let tree = tree-returns (ReturnsWithin program n) n (trees-mean n) proc globals args acts.entry acts.shape acts.final (omega arith) does in
      let value_there : value_in w acts.final ≡ value =
      ap (λ (own : State). slice_index_or own (length own - 1) (pos 0)) acts.own_is ∙ returns.value_is in (
        suc n,
        subst (λ v. ReturnsOver (ReturnsWithin program n) program proc globals args after v) value_there
            (subst (λ a. ReturnsOver (ReturnsWithin program n) program proc globals args a (value_in w acts.final)) acts.now_is tree),
      )

  pub over-returns : (proc : ℕ) (globals args after : State) (value : ℤ) → ReturnsOver (Returns program) program proc globals args after value → Returns program proc globals args after value
  over-returns proc globals args after value r =
      (returns_are_walks program proc globals args after value).1 (
        r.final,
        record { width = r.width; callee = r.callee; is = r.is; params = r.params; others = r.others; columns = r.columns; path = r.path; walk = r.walk },
        r.after_is,
        r.value_is,
      )

pub returns_have_heights : ReturnsHaveHeights
returns_have_heights program proc globals args after value = (
  returns-within program proc globals args after value,
  λ tree. returns-by_height program (Returns program) (over-returns program) tree.0 proc globals args after value tree.1,
)
