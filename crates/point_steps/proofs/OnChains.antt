-- A state holds of the activations on a stack from `main` that come to its point.
use Rattle.std.proofs.Common.{◌≡◌, ℕ, ◌+◌, length, [], ◌++◌, Option, None, Some, refl, sym, ap, subst, ◌∙◌, append_assoc, length-append, arith}
use Rattle.std.specs.Prelude.{IfOk, Result, slice_get}
use Rattle.std.proofs.lemmas.Result.{IfOk-weaker}
use Rattle.syntax_tree.specs.declared.program.Proc.{Proc}
use Rattle.syntax_tree.specs.declared.program.Program.{Program}
use Rattle.syntax_tree.specs.Value.{State}
use Rattle.syntax_tree.specs.WellFormed.{width_of}
use Rattle.transition_formula.specs.Meaning.{Holds}
use Rattle.transition_formula.specs.Transition.{Transition}
use Rattle.posing.specs.declared.error.WorkError.{WorkError}
use Rattle.flow_graph.specs.Walks.{WalksTo}
use Rattle.vocabularies.specs.Procs.{IsProcOf}
use Rattle.proc_summary.specs.Claims.{HoldsIf, StopHolds}
use Rattle.context.specs.Claims.{EntryHolds, IsEntry, IsEntryIf}
use Rattle.context.specs.Entries.{stand_of}
use Rattle.context.specs.Verdicts.{entry_or_none}
use Rattle.context.proofs.AssertionPlaces.{some-one}
use Rattle.point_steps.specs.Claims.{StateHolds}
use Rattle.point_steps.specs.Parts.{HoldsAtPoint}

-- ---- an entry, and a formula that leads on, which may be missing

pub begun-entry : (columns : ℕ) (entry : Option Transition) → IsEntryIf columns entry → IsEntry columns (entry_or_none columns entry)
begun-entry columns None h = record { from = refl; to = refl; fits = refl; fitted = refl }
begun-entry columns (Some f) h = h

begun-holds : (columns : ℕ) (entry : Option Transition) (before after : State) → HoldsIf entry before after → Holds (entry_or_none columns entry) before after
begun-holds columns None before after h = absurd h
begun-holds columns (Some f) before after h = h

led-holds : (columns : ℕ) (stand : Option Transition) (before after : State) → HoldsIf stand before after → Holds (stand_of columns stand) before after
led-holds columns None before after h = absurd h
led-holds columns (Some f) before after h = h

-- ---- on chains

begun-long : (program : Program) (proc : ℕ) (p : Proc) → IsProcOf program proc p → (globals args : State) (node : ℕ) (after : State) (walk : WalksTo program proc globals args node after) → length ((globals ++ args) ++ walk.others) ≡ width_of program p
begun-long program proc p is globals args node after walk =
    let same : walk.callee ≡ p = some-one (slice_get program.procs proc) walk.callee p walk.is is in
    let width = walk.width in
    let columns = walk.columns in
    let own = ap (λ (q : Proc). length q.columns) same in
    let front = length-append globals args in
    let all = length-append (globals ++ args) walk.others in
    omega (arith, width, columns, own, front, all)

pub state-on-chains : (program : Program) (proc : ℕ) (p : Proc) → IsProcOf program proc p → (node columns width : ℕ) (entry reach : Option Transition) (begun led : Transition) (result : Result Transition WorkError) → columns ≡ width_of program p
    → begun ≡ entry_or_none width entry → led ≡ stand_of columns reach → IfOk result (HoldsAtPoint columns begun led) → EntryHolds program proc entry → StopHolds program proc (record { node = node; formula = reach }) → IfOk result (StateHolds program proc node)
state-on-chains program proc p is node columns width entry reach begun led result wide begins leads holds enters stops =
    IfOk-weaker result (HoldsAtPoint columns begun led) (StateHolds program proc node)
    (λ f at config chain e after walk.
    let globals = chain.top.globals in
    let args = chain.top.args in
    let first = subst (λ g. Holds g [] (globals ++ args)) (sym begins) (begun-holds width entry [] (globals ++ args) (enters config chain e)) in
    let second = subst (λ g. Holds g (globals ++ (args ++ walk.others)) after) (sym leads) (led-holds columns reach (globals ++ (args ++ walk.others)) after (stops globals args after walk)) in
    at (globals ++ args) walk.others after first (begun-long program proc p is globals args node after walk ∙ sym wide)
    (subst (λ before. Holds led before after) (sym (append_assoc globals args walk.others)) second))
    holds
