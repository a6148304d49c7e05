use mathlib.Core.Path.{transport}
use Rattle.std.proofs.Common.{ap, refl, sym, subst, ◌∙◌}
use Rattle.std.specs.List.{AllByRecursion}
use Rattle.std.proofs.lemmas.Result.{IfOk-weaker}
use Rattle.posing.proofs.Following.{stops}
use Rattle.posing.proofs.Steps.{in_other_words}
use Rattle.leaf_cases.specs.Conditions.{columns_in}
use Rattle.context.proofs.PlaceColumns.{got}
use Rattle.point_steps.specs.Claims.{ArePointSteps, AreWayCells, StepsCover}
use Rattle.point_steps.specs.Outs.{outs_of}
use Rattle.point_steps.specs.Parts.{CoverOuts, IsOut, IsStepOrigin}
use Rattle.point_steps.specs.Steps.{steps_by}
use Rattle.point_steps.proofs.OutFits.{each-out, outs-ready, state-ready}
use Rattle.point_steps.proofs.StepLaws.{if_ok-has, steps-are, steps-cover}
use Rattle.point_steps.proofs.stepping.steps.Goals as goal

pub steps_by-requires-clause-state : goal.steps_by-requires-clause-state
steps_by-requires-clause-state g c =
    let program = c.args.source.program.now in
    let there = got program.procs c.args.source.proc c.requires.source.procedure in
    subst (λ n. IsStepOrigin n c.as_slice.result.now c.args.state.now) (sym (c.columns_of.ensures ∙ ap (columns_in program) there.1))
    (state-ready program c.args.source.proc there.0 c.requires.source.formed there.1 c.args.state.now (c.requires.state there.0 there.1) c.as_slice.result.now (c.as_slice.ensures ∙ c.in_ok-places.ensures there.0 there.1))

pub steps_by-requires-clause-outs : goal.steps_by-requires-clause-outs
steps_by-requires-clause-outs g c =
    let program = c.args.source.program.now in
    let there = got program.procs c.args.source.proc c.requires.source.procedure in
    let wide = ap (columns_in program) there.1 in
    subst (λ n. AllByRecursion (IsOut n c.as_slice.result.now) c.as_slice-2.result.now) (sym (c.columns_of.ensures ∙ wide))
    (outs-ready program c.args.source.proc there.0 c.requires.source.formed there.1 c.args.source.cells.now (subst (λ n. AreWayCells n c.args.source.cells.now) wide c.requires.source.ways) c.args.source.node c.as_slice.result.now
    (c.as_slice.ensures ∙ c.in_ok-places.ensures there.0 there.1) c.as_slice-2.result.now (c.as_slice-2.ensures ∙ c.in_ok-outs.ensures there.0 there.1))

pub returns-clause-follows : goal.returns-clause-follows
returns-clause-follows g c = λ p is.
    in_other_words
    (λ i. steps_by ((c.columns_of.ensures ∙ ap (columns_in c.args.source.program.now) is) i) ((c.as_slice.ensures ∙ c.in_ok-places.ensures p is) i) c.args.state.now ((c.as_slice-2.ensures ∙ c.in_ok-outs.ensures p is) i))
    c.steps_by.ensures.follows

pub returns-clause-fits : goal.returns-clause-fits
returns-clause-fits g c = λ p is.
    let program = c.args.source.program.now in
    let cells = c.args.source.cells.now in
    let wide = ap (columns_in program) is in
    let outs = outs_of program c.args.source.proc p c.args.source.node cells in
    if_ok-has c.steps_by.result (ArePointSteps program p)
    (in_other_words
    (λ i. steps_by ((c.columns_of.ensures ∙ wide) i) ((c.as_slice.ensures ∙ c.in_ok-places.ensures p is) i) c.args.state.now ((c.as_slice-2.ensures ∙ c.in_ok-outs.ensures p is) i))
    c.steps_by.ensures.follows)
    (steps-are program c.args.source.proc p c.requires.source.formed is c.args.state.now (c.requires.state p is) outs
    (each-out program c.args.source.proc p c.requires.source.formed is cells (subst (λ n. AreWayCells n cells) wide c.requires.source.ways) c.args.source.node))

pub returns-clause-covers : goal.returns-clause-covers
returns-clause-covers g c = λ p known is cover.
    let program = c.args.source.program.now in
    let cells = c.args.source.cells.now in
    let node = c.args.source.node in
    let wide = ap (columns_in program) is in
    IfOk-weaker c.steps_by.result (CoverOuts c.columns_of.result c.as_slice.result.now c.args.state.now c.as_slice-2.result.now) (StepsCover program c.args.source.proc p known node c.args.state.now)
    (λ steps h. steps-cover program c.args.source.proc p c.requires.source.formed is known node c.args.state.now (c.requires.state p is) cells (subst (λ n. AreWayCells n cells) wide c.requires.source.ways) cover steps
    (transport (λ i. CoverOuts ((c.columns_of.ensures ∙ wide) i) ((c.as_slice.ensures ∙ c.in_ok-places.ensures p is) i) c.args.state.now ((c.as_slice-2.ensures ∙ c.in_ok-outs.ensures p is) i) steps) h))
    c.steps_by.ensures.covers

pub returns-in_err-places-clause-follows : goal.returns-in_err-places-clause-follows
returns-in_err-places-clause-follows g c = λ p is. stops _ _ _ _ _ _ refl c.from_residual.ensures.1

pub returns-in_err-outs-clause-follows : goal.returns-in_err-outs-clause-follows
returns-in_err-outs-clause-follows g c = λ p is. stops _ _ _ _ _ _ refl c.from_residual-in_err-outs.ensures.1
