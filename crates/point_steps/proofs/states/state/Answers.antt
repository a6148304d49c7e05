use Rattle.std.proofs.Common.{◌+◌, ap, refl, sym, subst, ◌∙◌}
use Rattle.std.specs.Prelude.{IfOk}
use Rattle.posing.proofs.Steps.{in_other_words}
use Rattle.posing.proofs.Following.{stops}
use Rattle.proc_summary.specs.Claims.{FitsIf, IsBetweenStates}
use Rattle.context.specs.Claims.{IsEntry, IsEntryIf}
use Rattle.context.specs.Entries.{stand_of}
use Rattle.context.specs.Verdicts.{entry_or_none}
use Rattle.context.proofs.CallLeaves.{stand-between}
use Rattle.context.proofs.PlaceColumns.{got}
use Rattle.point_steps.specs.declared.ends.PointEnds.{PointEnds}
use Rattle.point_steps.specs.Claims.{IsState}
use Rattle.point_steps.specs.States.{state_by}
use Rattle.point_steps.proofs.OnChains.{begun-entry, state-on-chains}
use Rattle.point_steps.proofs.states.state.Goals as goal

pub state_by-requires-clause-entry : goal.state_by-requires-clause-entry
state_by-requires-clause-entry g c =
    let there = got c.args.program.now.procs c.args.proc c.requires.procedure in
    let same = ap (λ (ends : PointEnds). ends.entry) (c.in_ok-ends.ensures.exact there.0 there.1) in
    subst (IsEntry c.in_ok-ends.ends.entry) (sym c.in_ok-begun.ensures)
    (begun-entry c.in_ok-ends.ends.entry c.args.entry.now (subst (λ n. IsEntryIf n c.args.entry.now) (sym same) (c.requires.entry there.0 there.1)))

pub state_by-requires-clause-reach : goal.state_by-requires-clause-reach
state_by-requires-clause-reach g c =
    let there = got c.args.program.now.procs c.args.proc c.requires.procedure in
    let same = ap (λ (ends : PointEnds). ends.columns) (c.in_ok-ends.ensures.exact there.0 there.1) in
    subst (IsBetweenStates c.in_ok-ends.ends.columns) (sym c.in_ok-led.ensures)
    (stand-between c.in_ok-ends.ends.columns c.args.reach.now (subst (λ n. FitsIf n c.args.reach.now) (sym same) (c.requires.reach there.0 there.1)))

pub returns-clause-follows : goal.returns-clause-follows
returns-clause-follows g c = λ p is.
    let exact = c.in_ok-ends.ensures.exact p is in
    in_other_words
    (λ i. state_by (exact i) ((c.in_ok-begun.ensures ∙ ap (λ (ends : PointEnds). entry_or_none ends.entry c.args.entry.now) exact) i) ((c.in_ok-led.ensures ∙ ap (λ (ends : PointEnds). stand_of ends.columns c.args.reach.now) exact) i))
    c.state_by.ensures.follows

pub returns-clause-fits : goal.returns-clause-fits
returns-clause-fits g c = λ p is. subst (λ (ends : PointEnds). IfOk c.state_by.result (IsState (ends.columns + ends.entry))) (c.in_ok-ends.ensures.exact p is) c.state_by.ensures.fits

pub returns-clause-holds : goal.returns-clause-holds
returns-clause-holds g c = λ node enters stops.
    let there = got c.args.program.now.procs c.args.proc c.requires.procedure in
    let exact = c.in_ok-ends.ensures.exact there.0 there.1 in
    state-on-chains c.args.program.now c.args.proc there.0 there.1 node c.in_ok-ends.ends.columns c.in_ok-ends.ends.entry c.args.entry.now c.args.reach.now c.in_ok-begun.begun c.in_ok-led.led c.state_by.result (ap (λ (ends : PointEnds). ends.columns) exact)
    c.in_ok-begun.ensures c.in_ok-led.ensures c.state_by.ensures.holds enters stops

pub returns-in_err-ends-clause-follows : goal.returns-in_err-ends-clause-follows
returns-in_err-ends-clause-follows g c = λ p is. stops _ _ _ _ _ _ refl c.from_residual.ensures.1

pub returns-in_err-begun-clause-follows : goal.returns-in_err-begun-clause-follows
returns-in_err-begun-clause-follows g c = λ p is. stops _ _ _ _ _ _ refl c.from_residual-in_err-begun.ensures.1

pub returns-in_err-led-clause-follows : goal.returns-in_err-led-clause-follows
returns-in_err-led-clause-follows g c = λ p is. stops _ _ _ _ _ _ refl c.from_residual-in_err-led.ensures.1
