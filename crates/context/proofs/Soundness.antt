-- Where no state that the entry and the flow lead to makes the condition false, no execution fails
-- the assertion.
use Rattle.std.proofs.Common.{◌≡◌, ℕ, length, List, [], ◌∷◌, ◌++◌, Option, Some, sym, ap, subst, ◌∙◌, append_assoc, length-append, arith}
use Rattle.std.specs.Prelude.{slice_get}
use Rattle.std.specs.Option.{option_map}
use Rattle.std.proofs.lemmas.Option.{slice_get-map}
use Rattle.std.proofs.lemmas.List.Elements.{recursion_from_All}
use Rattle.items.proofs.Each.{each-get}
use Rattle.syntax_tree.specs.declared.program.Proc.{Proc}
use Rattle.syntax_tree.specs.declared.program.Program.{Program}
use Rattle.syntax_tree.specs.Code.{Check, code_of}
use Rattle.syntax_tree.specs.Value.{State}
use Rattle.syntax_tree.specs.WellFormed.{IsWellFormed, width_of}
use Rattle.execution.specs.Machine.{Do, Frame, Item}
use Rattle.execution.specs.Execution.{Fails}
use Rattle.execution.specs.Step.{IsFalseIn}
use Rattle.flow_graph.specs.FlowGraph.{CheckPlace, body_of, flow_of}
use Rattle.flow_graph.specs.Stack.{Beginning, StandsOver}
use Rattle.flow_graph.specs.Walks.{Stands, WalksTo}
use Rattle.flow_graph.proofs.StackChain.{failures_are_in_chains}
use Rattle.flow_graph.proofs.Theorems.{checks_are_walks}
use Rattle.transition_formula.specs.Transition.{Transition}
use Rattle.vocabularies.specs.Procs.{IsProcOf}
use Rattle.proc_summary.specs.declared.stop.Flow.{Flow}
use Rattle.proc_summary.specs.declared.stop.NodeFormula.{NodeFormula}
use Rattle.proc_summary.specs.Claims.{FitsFlow, FlowHolds, HoldsIf, StopHolds, nodes_of}
use Rattle.proc_summary.specs.Subject.{check_nodes, own_graph}
use Rattle.context.specs.Claims.{EntryHolds, start_of_main}
use Rattle.context.specs.Ends.{NoneFails}
use Rattle.context.specs.Verdicts.{place_of}
use Rattle.context.proofs.AssertionPlaces.{one-place, some-one}

pub stands-top : (program : Program) (bottom top : Beginning) (globals : State) (items : List Item) (frame : Frame) (below : List Frame) → StandsOver program bottom top globals items frame below → Stands program top.proc top.globals top.args items (globals ++ frame.own)
stands-top program bottom top globals items frame [] h = h.2
stands-top program bottom top globals items frame (caller ∷ below) h = h.1

pub never-fails : (program : Program) (proc check : ℕ) (p : Proc) (at : CheckPlace) (flow : Flow) (stop : NodeFormula) (entry : Option Transition) → IsWellFormed program → IsProcOf program proc p → slice_get (own_graph p).checks check ≡ Some at
    → slice_get flow.checks check ≡ Some stop → FitsFlow program p flow → EntryHolds program proc entry → FlowHolds program proc flow → NoneFails (place_of program p) at.cond entry stop.formula → Fails program at.number → ⊥
never-fails program proc check p at flow stop entry formed is_p is_at is_stop fit enters holds none fails =
    let found = failures_are_in_chains program at.number fails in
    let chain = found.chain in
    let top : Beginning = chain.top in
    let final : State = found.config.globals ++ chain.frame.own in
    let stands = stands-top program (start_of_main program) top found.config.globals chain.frame.items chain.frame chain.below chain.stands in
    let here_at : Stands program top.proc top.globals top.args (Do (Check at.number found.cond) ∷ found.rest) final = subst (λ items. Stands program top.proc top.globals top.args items final) found.next stands in
    let walk = (checks_are_walks program top.proc top.globals top.args at.number found.cond final).0 (found.rest, here_at) in
    let place : CheckPlace = walk.0 in
    let k : ℕ = walk.1 in
    let w : WalksTo program top.proc top.globals top.args place.node final = walk.5 in
    let is_place : slice_get (flow_of (code_of w.callee.body)).checks k ≡ Some place = subst (λ o. slice_get (flow_of (body_of o)).checks k ≡ Some place) w.is walk.2 in
    let one = one-place program formed top.proc proc k check w.callee p place at w.is is_p is_place is_at walk.3 in
    let same_p : w.callee ≡ p = some-one (slice_get program.procs proc) w.callee p (sym (ap (slice_get program.procs) one.0) ∙ w.is) is_p in
    let moved : slice_get (flow_of (code_of w.callee.body)).checks k ≡ slice_get (own_graph p).checks check = λ i. slice_get (flow_of (code_of (Proc.body (same_p i)))).checks (one.1 i) in
    let same_at : place ≡ at = some-one (slice_get (own_graph p).checks check) place at (sym moved ∙ is_place) is_at in
    let node_s : slice_get (nodes_of flow.checks) check ≡ Some stop.node = slice_get-map (λ (s : NodeFormula). s.node) flow.checks check ∙ ap (option_map (λ (s : NodeFormula). s.node)) is_stop in
    let node_c : slice_get (check_nodes (own_graph p).checks) check ≡ Some at.node = slice_get-map (λ (c : CheckPlace). c.node) (own_graph p).checks check ∙ ap (option_map (λ (c : CheckPlace). c.node)) is_at in
    let same_node : stop.node ≡ at.node = some-one (slice_get (check_nodes (own_graph p).checks) check) stop.node at.node (sym (ap (λ l. slice_get l check) fit.checks_are) ∙ node_s) node_c in
    let told : StopHolds program proc stop = each-get (StopHolds program proc) flow.checks check stop (recursion_from_All (StopHolds program proc) flow.checks holds.checks) is_stop in
    let Says : ℕ → ℕ → Type 0 = λ q node. (globals args last : State) (way : WalksTo program q globals args node last) → HoldsIf stop.formula (globals ++ (args ++ way.others)) last in
    let told_there : Says top.proc place.node = subst (λ q. Says q place.node) (sym one.0) (subst (Says proc) (same_node ∙ sym (ap (λ (c : CheckPlace). c.node) same_at)) told) in
    let led = told_there top.globals top.args final w in
    let entered = enters found.config chain one.0 in
    let g = w.width in
    let a = w.columns in
    let columns = ap (λ (q : Proc). length q.columns) same_p in
    let long_one = length-append (top.globals ++ top.args) w.others in
    let long_two = length-append top.globals top.args in
    let long : length ((top.globals ++ top.args) ++ w.others) ≡ width_of program p = omega (arith, g, a, columns, long_one, long_two) in
    none (top.globals ++ top.args) w.others final entered long
    (subst (λ s. HoldsIf stop.formula s final) (sym (append_assoc top.globals top.args w.others)) led)
    (subst (λ c. IsFalseIn c final) (sym walk.4 ∙ ap (λ (c : CheckPlace). c.cond) same_at) found.fails)
