-- What is kept from point to point is true: by induction on the height of the trees of calls, along
-- walks, and then along the stack.
use Rattle.std.proofs.Common.{◌≡◌, ℕ, zero, suc, ℤ, length, take, List, [], ◌∷◌, ◌++◌, Option, Some, refl, sym, subst}
use Rattle.std.specs.Prelude.{Bool, true, false, ◌==◌, ◌||◌, slice_get}
use Rattle.std.proofs.lemmas.List.{take_at}
use Rattle.syntax_tree.specs.declared.program.Program.{Program}
use Rattle.syntax_tree.specs.Code.{Statement, Set, Any, Call, Guard, Check, If, Loop, Break, Continue, Return}
use Rattle.syntax_tree.specs.Term.{Term}
use Rattle.syntax_tree.specs.Value.{State}
use Rattle.execution.specs.Execution.{Returns}
use Rattle.execution.specs.Machine.{Do, Frame, Item}
use Rattle.execution.specs.Step.{values_of}
use Rattle.flow_graph.specs.FlowGraph.{Arc, body_of, exit_of}
use Rattle.flow_graph.specs.Heights.{ReturnsWithin}
use Rattle.flow_graph.specs.Laws.{last_of}
use Rattle.flow_graph.specs.Stack.{Beginning, StandsOver}
use Rattle.flow_graph.specs.Walks.{CallMeaning, EdgeRelates, Stands, Stride, Walks, WalksTo}
use Rattle.flow_graph.proofs.Heights.{returns_have_heights}
use Rattle.flow_graph.proofs.Theorems.{calls_are_walks}
use Rattle.point_induction.specs.Points.{is_head, is_point}
use Rattle.point_induction.specs.Induction.{AreKept, IsFirstState, AreBegun, ArePassed, IsSaidOfFirst, KeptSayingsAreTrue, PassageSaid, ReturnsSaid, Sayings, arcs_of, start_of}
use Rattle.point_induction.proofs.Passages.{passage-more, passage-none, passage-to_point}

module _ (program : Program) (say : Sayings) (kept : AreKept program say) where
  abbrev globals_count : ℕ
  globals_count = length program.globals

  -- ---- along walks

  -- at a point of which it is said
  said-here : (proc : ℕ) (globals args : State) (node : ℕ) (state : State) → is_point (arcs_of program proc) node ≡ true → say.at proc node globals args state → PassageSaid program say proc globals args node state
  said-here proc globals args node state is said =
      record {
        point = node;
        before = state;
        is = is;
        said = said;
        passage = passage-none (ReturnsSaid program say) globals_count (arcs_of program proc) node state;
      }

  said-along : (proc : ℕ) (globals args : State) (k : ℕ) (way : Arc) (between after : State) → slice_get (arcs_of program proc) k ≡ Some way
      → PassageSaid program say proc globals args way.from between → EdgeRelates (ReturnsSaid program say) globals_count way.act between after
      → (head : Bool) → is_head (arcs_of program proc) way.to ≡ head → PassageSaid program say proc globals args way.to after
  said-along proc globals args k way between after is p relates false free =
      record {
        point = p.point;
        before = p.before;
        is = p.is;
        said = p.said;
        passage = passage-more (ReturnsSaid program say) globals_count (arcs_of program proc) p.point p.before k way between after p.passage is free relates;
      }
  said-along proc globals args k way between after is p relates true head =
      said-here proc globals args way.to after (or-last (way.to == 0) (is_head (arcs_of program proc) way.to) head)
      (kept.heads proc way.to globals args after
      record {
        point = p.point;
        before = p.before;
        is = p.is;
        said = p.said;
        arrival = record {
          last = way.from;
          between = between;
          passage = p.passage;
          edge = k;
          way = way;
          is = is;
          starts = refl;
          ends = refl;
          head_is = head;
          relates = relates;
        };
      })
    where
      or-last : (b c : Bool) → c ≡ true → (b || c) ≡ true
      or-last true c e = refl
      or-last false c e = e

  -- where calls that began so return, they return so
  abbrev SaysReturns : CallMeaning → Type 0
  SaysReturns calls = (proc : ℕ) (globals args left : State) (value : ℤ) → IsSaidOfFirst program say proc globals args → calls proc globals args left value → ReturnsSaid program say proc globals args left value

  module _ (calls : CallMeaning) (lower : SaysReturns calls) where
    relates-said : (proc : ℕ) (globals args : State) (k : ℕ) (way : Arc) → slice_get (arcs_of program proc) k ≡ Some way → (act : Statement) → way.act ≡ act
        → (before after : State) → PassageSaid program say proc globals args way.from before → EdgeRelates calls globals_count act before after → EdgeRelates (ReturnsSaid program say) globals_count act before after
    relates-said proc globals args k way is (Call callee terms into) e before after p call =
        record {
          values = call.values;
          are = call.are;
          left = call.left;
          value = call.value;
          returns = lower callee (take globals_count before) call.values call.left call.value (kept.entries proc globals args before k way is p callee terms into call.values e call.are) call.returns;
          after_is = call.after_is;
        }
    relates-said proc globals args k way is (Set col value) e before after p relates = relates
    relates-said proc globals args k way is (Any col) e before after p relates = relates
    relates-said proc globals args k way is (Guard cond) e before after p relates = relates
    relates-said proc globals args k way is (Check number cond) e before after p relates = relates
    relates-said proc globals args k way is (If cond on_true on_false) e before after p relates = relates
    relates-said proc globals args k way is (Loop pre cond body step first) e before after p relates = relates
    relates-said proc globals args k way is Break e before after p relates = relates
    relates-said proc globals args k way is Continue e before after p relates = relates
    relates-said proc globals args k way is Return e before after p relates = relates

    walk-said : (proc : ℕ) (globals args : State) (node : ℕ) (state : State) (path : List Stride) (last : ℕ) (final : State)
        → PassageSaid program say proc globals args node state → Walks calls globals_count (arcs_of program proc) node state path last final → PassageSaid program say proc globals args last final
    walk-said proc globals args node state [] last final p walk =
        subst (λ n. PassageSaid program say proc globals args n final) walk.0 (subst (PassageSaid program say proc globals args node) walk.1 p)
    walk-said proc globals args node state (stride ∷ path) last final p walk =
        let way : Arc = walk.0 in
        let there : PassageSaid program say proc globals args way.from state = subst (λ n. PassageSaid program say proc globals args n state) (sym walk.2) p in
        let relates = relates-said proc globals args stride.edge way walk.1 way.act refl state stride.state there walk.3 in
        walk-said proc globals args way.to stride.state path last final
        (said-along proc globals args stride.edge way state stride.state walk.1 there relates (is_head (arcs_of program proc) way.to) refl) walk.4

    -- from where a procedure begins
    first-said : (proc : ℕ) (globals args : State) (state : State) (path : List Stride) (last : ℕ) (final : State)
        → IsSaidOfFirst program say proc globals args → IsFirstState program proc globals args state
        → Walks calls globals_count (arcs_of program proc) 0 state path last final → PassageSaid program say proc globals args last final
    first-said proc globals args state path last final begun first walk =
        walk-said proc globals args 0 state path last final (said-here proc globals args 0 state refl (begun state first)) walk

  -- ---- calls that return

  returns-said : (n : ℕ) → SaysReturns (ReturnsWithin program n)
  returns-said zero proc globals args left value begun r = absurd r
  returns-said (suc n) proc globals args left value begun r =
      let first : IsFirstState program proc globals args (globals ++ (args ++ r.others)) = record {
        width = r.width;
        callee = r.callee;
        is = r.is;
        params = r.params;
        others = r.others;
        columns = r.columns;
        state_is = refl;
      } in
      let exit = first-said (ReturnsWithin program n) (returns-said n) proc globals args (globals ++ (args ++ r.others)) r.path (exit_of (body_of (slice_get program.procs proc))) r.final begun first r.walk in
      let said = kept.exits proc globals args r.final exit in
      record {
        returns = (returns_have_heights program proc globals args left value).1 (suc n, r);
        said = subst (say.returned proc globals args left) r.value_is (subst (λ l. say.returned proc globals args l (last_of r.final)) r.after_is said);
      }

  all-said : SaysReturns (Returns program)
  all-said proc globals args left value begun returns =
      let high = (returns_have_heights program proc globals args left value).0 returns in
      returns-said high.0 proc globals args left value begun high.1

  -- a walk of an activation that began so
  walks-said : (proc : ℕ) (globals args : State) (node : ℕ) (after : State) → IsSaidOfFirst program say proc globals args → WalksTo program proc globals args node after → PassageSaid program say proc globals args node after
  walks-said proc globals args node after begun w =
      first-said (Returns program) all-said proc globals args (globals ++ (args ++ w.others)) w.path node after begun
      record {
        width = w.width;
        callee = w.callee;
        is = w.is;
        params = w.params;
        others = w.others;
        columns = w.columns;
        state_is = refl;
      }
      w.walk

  -- ---- along the stack

  stands-top : (bottom top : Beginning) (globals : State) (items : List Item) (frame : Frame) (below : List Frame) → StandsOver program bottom top globals items frame below → Stands program top.proc top.globals top.args items (globals ++ frame.own)
  stands-top bottom top globals items frame [] h = h.2
  stands-top bottom top globals items frame (caller ∷ below) h = h.1

  called-said : (under top : Beginning) (values : List Term) (into : Option ℕ) (rest : List Item) (own : State) → IsSaidOfFirst program say under.proc under.globals under.args
      → Stands program under.proc under.globals under.args (Do (Call top.proc values into) ∷ rest) (top.globals ++ own) → values_of values (top.globals ++ own) ≡ Some top.args → length top.globals ≡ globals_count
      → IsSaidOfFirst program say top.proc top.globals top.args
  called-said under top values into rest own begun stands values_are width =
      let final : State = top.globals ++ own in
      let edge = (calls_are_walks program under.proc under.globals under.args top.proc values into final).0 (rest, stands) in
      let way : Arc = edge.0 in
      let passed = walks-said under.proc under.globals under.args way.from final begun edge.4 in
      let entered = kept.entries under.proc under.globals under.args final edge.1 way edge.2 passed top.proc values into top.args edge.3 values_are in
      subst (λ g. IsSaidOfFirst program say top.proc g top.args) (take_at top.globals own globals_count width) entered

  chain-said : (below : List Frame) (top : Beginning) (globals : State) (items : List Item) (frame : Frame) → StandsOver program (start_of program) top globals items frame below → IsSaidOfFirst program say top.proc top.globals top.args
  chain-said [] top globals items frame h = subst (λ (b : Beginning). IsSaidOfFirst program say b.proc b.globals b.args) (sym h.0) kept.main
  chain-said (caller ∷ below) top globals items frame h =
      let under : Beginning = h.2 in
      let values : List Term = h.3 in
      let over = h.5 in
      let rest : List Item = Do (Call top.proc values frame.into) ∷ caller.items in
      called-said under top values frame.into caller.items caller.own (chain-said below under top.globals rest caller over)
      (stands-top (start_of program) under top.globals rest caller below over) h.4 h.1.begins.width

pub kept_sayings_are_true : KeptSayingsAreTrue
kept_sayings_are_true program say kept =
    let begun : AreBegun program say = λ config chain. chain-said program say kept chain.below chain.top config.globals chain.frame.items chain.frame chain.stands in
    let passed : ArePassed program say = λ config chain node after walk. walks-said program say kept chain.top.proc chain.top.globals chain.top.args node after (begun config chain) walk in
    record {
      begun = begun;
      passed = passed;
      reached = λ config chain node after point walk.
          let p = passed config chain node after walk in
          let same = passage-to_point (ReturnsSaid program say) (length program.globals) (arcs_of program chain.top.proc) p.point p.before node after p.passage point in
          subst (λ n. say.at chain.top.proc n chain.top.globals chain.top.args after) same.0
          (subst (say.at chain.top.proc p.point chain.top.globals chain.top.args) same.1 p.said);
      returned = λ config chain left value returns. (all-said program say kept chain.top.proc chain.top.globals chain.top.args left value (begun config chain) returns).said;
    }
