-- A walk keeps how many columns a state has: it begins with those of its procedure.
use Rattle.std.proofs.Common.{◌≡◌, ◌≤◌, ℕ, ℤ, ◌+◌, List, [], ◌∷◌, ◌++◌, Option, Some, None, refl, sym, ap, subst, ◌∙◌, arith, length, take, drop, length-append}
use Rattle.std.specs.Prelude.{slice_get}
use Rattle.std.proofs.lemmas.List.{length-drop, length-set, length-take-le}
use Rattle.std.proofs.lemmas.Option.{same_Some}
use Rattle.syntax_tree.specs.declared.program.Proc.{Proc}
use Rattle.syntax_tree.specs.declared.program.Program.{Program}
use Rattle.syntax_tree.specs.Code.{Statement, Set, Any, Call, Guard, Check, If, Loop, Break, Continue, Return}
use Rattle.syntax_tree.specs.Value.{State}
use Rattle.syntax_tree.specs.WellFormed.{width_of}
use Rattle.execution.specs.Execution.{Returns}
use Rattle.execution.proofs.Straight.{length-Changes}
use Rattle.flow_graph.specs.FlowGraph.{Arc}
use Rattle.flow_graph.specs.Walks.{CallRelates, EdgeRelates, Stride, Walks, WalksTo, state_with_value}
use Rattle.leaf_cases.proofs.MetCalls.{returns-globals}

received : (into : Option ℕ) (value : ℤ) (state : State) → length (state_with_value into value state) ≡ length state
received None value state = refl
received (Some col) value state = length-set state col value

module _ (program : Program) where
  call-width : (callee : ℕ) (terms : List _) (into : Option ℕ) (before after : State) → length program.globals ≤ length before
      → CallRelates (Returns program) (length program.globals) callee terms into before after → length after ≡ length before
  call-width callee terms into before after fits call =
      let w : ℕ = length program.globals in
      let set = ap length call.after_is ∙ received into call.value (call.left ++ drop w before) in
      let sum = length-append call.left (drop w before) in
      let cut = returns-globals program callee (take w before) call.values call.left call.value call.returns ∙ length-take-le w before fits in
      let rest = length-drop w before in
      omega (arith, set, sum, cut, rest, fits)

  edge-width : (act : Statement) (before after : State) → length program.globals ≤ length before → EdgeRelates (Returns program) (length program.globals) act before after → length after ≡ length before
  edge-width (Call callee terms into) before after fits call = call-width callee terms into before after fits call
  edge-width (Set col value) before after fits relates = length-Changes (Set col value) before after relates
  edge-width (Any col) before after fits relates = length-Changes (Any col) before after relates
  edge-width (Guard cond) before after fits relates = length-Changes (Guard cond) before after relates
  edge-width (Check number cond) before after fits relates = length-Changes (Check number cond) before after relates
  edge-width (If cond on_true on_false) before after fits relates = absurd relates
  edge-width (Loop pre cond body step first) before after fits relates = absurd relates
  edge-width Break before after fits relates = absurd relates
  edge-width Continue before after fits relates = absurd relates
  edge-width Return before after fits relates = absurd relates

  path-width : (arcs : List Arc) (node : ℕ) (before : State) (path : List Stride) (last : ℕ) (after : State) → length program.globals ≤ length before
      → Walks (Returns program) (length program.globals) arcs node before path last after → length after ≡ length before
  path-width arcs node before [] last after fits walk = ap length (sym walk.1)
  path-width arcs node before (stride ∷ path) last after fits (way, is, from, relates, later) =
      let one = edge-width way.act before stride.state fits relates in
      path-width arcs way.to stride.state path last after (omega (arith, one, fits)) later ∙ one

  -- of an activation of a procedure
  pub walk-width : (proc : ℕ) (globals args : State) (node : ℕ) (after : State) (p : Proc) → slice_get program.procs proc ≡ Some p → WalksTo program proc globals args node after
      → length after ≡ width_of program p
  walk-width proc globals args node after p is walk =
      let first : State = globals ++ (args ++ walk.others) in
      let same : walk.callee ≡ p = same_Some walk.callee p (sym walk.is ∙ is) in
      let columns : length args + length walk.others ≡ length p.columns + 1 = subst (λ (q : Proc). length args + length walk.others ≡ length q.columns + 1) same walk.columns in
      let whole = length-append globals (args ++ walk.others) in
      let own = length-append args walk.others in
      let width = walk.width in
      let kept = path-width _ 0 first walk.path node after (omega (arith, whole, width)) walk.walk in
      omega (arith, kept, whole, own, width, columns)
