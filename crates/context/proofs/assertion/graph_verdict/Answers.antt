use mathlib.Core.Path.{transport}
use Rattle.std.proofs.Common.{◌≡◌, ◌<◌, Some, length, refl, sym, ap, subst, ◌∙◌}
use Rattle.std.specs.Prelude.{get_or, slice_get}
use Rattle.std.proofs.lemmas.Option.{slice_get_read}
use Rattle.syntax_tree.specs.Term.{term_of}
use Rattle.posing.proofs.Following.{stops}
use Rattle.posing.proofs.Steps.{in_other_words}
use Rattle.proc_summary.specs.declared.stop.NodeFormula.{NodeFormula}
use Rattle.proc_summary.specs.Claims.{FitsIf}
use Rattle.context.specs.declared.place.AssertionPlace.{AssertionPlace}
use Rattle.context.specs.Claims.{IsEntryIf}
use Rattle.context.specs.Ends.{IsCondition, NoneFails}
use Rattle.context.specs.Verdicts.{verdict_of}
use Rattle.context.proofs.CheckPlaces.{check-within, cond-fits, cond-is, stand-fits}
use Rattle.context.proofs.AssertionPlaces.{some-one}
use Rattle.context.proofs.PlaceColumns.{got}
use Rattle.context.proofs.Soundness.{never-fails}
use Rattle.context.proofs.assertion.graph_verdict.Goals as goal

pub bounds-as_slice-check-2 : goal.bounds-as_slice-check-2
bounds-as_slice-check-2 g c =
    let there = got c.args.program.now.procs c.args.assertion.proc c.requires.procedure in
    subst (λ l. c.args.assertion.check < length l) (sym c.as_slice-2.ensures)
    (check-within c.args.program.now c.args.assertion.proc there.0 there.1 c.args.graph.now c.requires.graph c.args.assertion.flow.now c.args.assertion.check (c.requires.flow there.0 there.1) c.requires.assertion)

pub returns-in_err-place-clause-follows : goal.returns-in_err-place-clause-follows
returns-in_err-place-clause-follows g c = λ p at stop is is_at is_stop. stops _ _ _ _ _ _ refl c.from_residual.ensures.1

pub verdict_at-requires-clause-cond : goal.verdict_at-requires-clause-cond
verdict_at-requires-clause-cond g c =
    let program = c.args.program.now in
    let there = got program.procs c.args.assertion.proc c.requires.procedure in
    let x = get_or c.as_slice-2.result.now c.args.assertion.check c.index-as_slice-check-2.result in
    let within = subst (λ l. c.args.assertion.check < length l) (sym c.as_slice-2.ensures)
    (check-within program c.args.assertion.proc there.0 there.1 c.args.graph.now c.requires.graph c.args.assertion.flow.now c.args.assertion.check (c.requires.flow there.0 there.1) c.requires.assertion) in
    let at : slice_get c.args.graph.now.checks c.args.assertion.check ≡ Some x =
    ap (λ l. slice_get l c.args.assertion.check) (sym c.as_slice-2.ensures) ∙ slice_get_read c.as_slice-2.result.now (length c.as_slice-2.result.now) c.args.assertion.check c.index-as_slice-check-2.result refl within c.index-as_slice-check-2.is ∙ ap (λ z. Some z) c.index-as_slice-check-2.is in
    subst (λ (place : AssertionPlace). IsCondition place.columns (term_of x.cond)) (sym (c.in_ok-place.ensures.exact there.0 there.1))
    (cond-fits program c.args.assertion.proc there.0 there.1 c.args.graph.now c.requires.graph c.args.assertion.check x c.requires.formed at)

pub verdict_at-requires-clause-entry : goal.verdict_at-requires-clause-entry
verdict_at-requires-clause-entry g c =
    let there = got c.args.program.now.procs c.args.assertion.proc c.requires.procedure in
    subst (λ (place : AssertionPlace). IsEntryIf place.entry c.args.assertion.at_entry.now) (sym (c.in_ok-place.ensures.exact there.0 there.1)) (c.requires.entry there.0 there.1)

pub verdict_at-requires-clause-stand : goal.verdict_at-requires-clause-stand
verdict_at-requires-clause-stand g c =
    let program = c.args.program.now in
    let there = got program.procs c.args.assertion.proc c.requires.procedure in
    let x = get_or c.as_slice.result.now c.args.assertion.check c.index-as_slice-check.result in
    let within = subst (λ l. c.args.assertion.check < length l) (sym c.as_slice.ensures) c.requires.assertion in
    let at : slice_get c.args.assertion.flow.now.checks c.args.assertion.check ≡ Some x =
    ap (λ l. slice_get l c.args.assertion.check) (sym c.as_slice.ensures) ∙ slice_get_read c.as_slice.result.now (length c.as_slice.result.now) c.args.assertion.check c.index-as_slice-check.result refl within c.index-as_slice-check.is ∙ ap (λ z. Some z) c.index-as_slice-check.is in
    subst (λ (place : AssertionPlace). FitsIf place.columns x.formula) (sym (c.in_ok-place.ensures.exact there.0 there.1))
    (stand-fits program there.0 c.args.assertion.flow.now c.args.assertion.check x (c.requires.flow there.0 there.1) at)

pub returns-clause-follows : goal.returns-clause-follows
returns-clause-follows g c = λ p at stop is is_at is_stop.
    let program = c.args.program.now in
    let x = get_or c.as_slice-2.result.now c.args.assertion.check c.index-as_slice-check-2.result in
    let y = get_or c.as_slice.result.now c.args.assertion.check c.index-as_slice-check.result in
    let within = subst (λ l. c.args.assertion.check < length l) (sym c.as_slice-2.ensures)
    (check-within program c.args.assertion.proc p is c.args.graph.now c.requires.graph c.args.assertion.flow.now c.args.assertion.check (c.requires.flow p is) c.requires.assertion) in
    let x_at : slice_get c.args.graph.now.checks c.args.assertion.check ≡ Some x =
    ap (λ l. slice_get l c.args.assertion.check) (sym c.as_slice-2.ensures) ∙ slice_get_read c.as_slice-2.result.now (length c.as_slice-2.result.now) c.args.assertion.check c.index-as_slice-check-2.result refl within c.index-as_slice-check-2.is ∙ ap (λ z. Some z) c.index-as_slice-check-2.is in
    let under = subst (λ l. c.args.assertion.check < length l) (sym c.as_slice.ensures) c.requires.assertion in
    let y_at : slice_get c.args.assertion.flow.now.checks c.args.assertion.check ≡ Some y =
    ap (λ l. slice_get l c.args.assertion.check) (sym c.as_slice.ensures) ∙ slice_get_read c.as_slice.result.now (length c.as_slice.result.now) c.args.assertion.check c.index-as_slice-check.result refl under c.index-as_slice-check.is ∙ ap (λ z. Some z) c.index-as_slice-check.is in
    let cond = cond-is program c.args.assertion.proc p is c.args.graph.now c.requires.graph c.args.assertion.check x at x_at is_at in
    let same = some-one (slice_get c.args.assertion.flow.now.checks c.args.assertion.check) y stop y_at is_stop in
    in_other_words (λ i. verdict_of (c.in_ok-place.ensures.exact p is i) (cond i) c.args.assertion.at_entry.now (NodeFormula.formula (same i))) c.verdict_at.ensures.follows

pub returns-clause-sound : goal.returns-clause-sound
returns-clause-sound g c = λ p at is is_at enters holds proved fails.
    let program = c.args.program.now in
    let x = get_or c.as_slice-2.result.now c.args.assertion.check c.index-as_slice-check-2.result in
    let y = get_or c.as_slice.result.now c.args.assertion.check c.index-as_slice-check.result in
    let within = subst (λ l. c.args.assertion.check < length l) (sym c.as_slice-2.ensures)
    (check-within program c.args.assertion.proc p is c.args.graph.now c.requires.graph c.args.assertion.flow.now c.args.assertion.check (c.requires.flow p is) c.requires.assertion) in
    let x_at : slice_get c.args.graph.now.checks c.args.assertion.check ≡ Some x =
    ap (λ l. slice_get l c.args.assertion.check) (sym c.as_slice-2.ensures) ∙ slice_get_read c.as_slice-2.result.now (length c.as_slice-2.result.now) c.args.assertion.check c.index-as_slice-check-2.result refl within c.index-as_slice-check-2.is ∙ ap (λ z. Some z) c.index-as_slice-check-2.is in
    let under = subst (λ l. c.args.assertion.check < length l) (sym c.as_slice.ensures) c.requires.assertion in
    let y_at : slice_get c.args.assertion.flow.now.checks c.args.assertion.check ≡ Some y =
    ap (λ l. slice_get l c.args.assertion.check) (sym c.as_slice.ensures) ∙ slice_get_read c.as_slice.result.now (length c.as_slice.result.now) c.args.assertion.check c.index-as_slice-check.result refl under c.index-as_slice-check.is ∙ ap (λ z. Some z) c.index-as_slice-check.is in
    let cond = cond-is program c.args.assertion.proc p is c.args.graph.now c.requires.graph c.args.assertion.check x at x_at is_at in
    never-fails program c.args.assertion.proc c.args.assertion.check p at c.args.assertion.flow.now y c.args.assertion.at_entry.now c.requires.formed is is_at y_at (c.requires.flow p is) enters holds
    (transport (λ i. NoneFails (c.in_ok-place.ensures.exact p is i) (cond i) c.args.assertion.at_entry.now y.formula) (c.verdict_at.ensures.sound proved)) fails
