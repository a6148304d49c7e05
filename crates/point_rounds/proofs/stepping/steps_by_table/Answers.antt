use Rattle.std.proofs.Common.{[], ap, refl, sym, subst, ◌∙◌}
use Rattle.std.specs.List.{AllByRecursion}
use Rattle.std.proofs.lemmas.Result.{IfOk-weaker}
use Rattle.posing.specs.Posing.{each}
use Rattle.posing.proofs.Following.{stops}
use Rattle.posing.proofs.Steps.{in_other_words}
use Rattle.leaf_cases.specs.Conditions.{AreKnown}
use Rattle.point_rows.specs.Exits.{FitExits, formulas_with_exits}
use Rattle.point_rounds.specs.Closed.{CoversState}
use Rattle.point_rounds.specs.Rounds.{with_state}
use Rattle.point_rounds.proofs.SourceParts.{exits-fit, exits-known}
use Rattle.point_rounds.proofs.stepping.steps_by_table.Goals as goal

pub formulas_with_exits-requires : goal.formulas_with_exits-requires
formulas_with_exits-requires g c =
    let source = c.args.source in
    subst (λ exits. FitExits source.known.now exits) (sym c.as_slice.ensures) (exits-fit source.program.now source.known.now c.requires.source.known c.args.table.now c.requires.table)

pub steps_by_known-requires : goal.steps_by_known-requires
steps_by_known-requires g c =
    let source = c.args.source in
    let made = c.as_slice-2.ensures ∙ c.in_ok-known.ensures ∙ ap (formulas_with_exits source.known.now) c.as_slice.ensures in
    record {
      formed = c.requires.source.formed;
      graphs = c.requires.source.graphs;
      heads = c.requires.source.heads;
      known = subst (AreKnown source.program.now) (sym made) (exits-known source.program.now source.known.now c.requires.source.known c.args.table.now c.requires.table);
      states = c.requires.source.states;
    }

pub returns-clause-follows : goal.returns-clause-follows
returns-clause-follows g c =
    let source = c.args.source in
    let made = c.as_slice-2.ensures ∙ c.in_ok-known.ensures ∙ ap (formulas_with_exits source.known.now) c.as_slice.ensures in
    in_other_words (ap (λ known. each (with_state source.program.now known) [] source.states.now) made) c.steps_by_known.ensures.follows

pub returns-clause-fits : goal.returns-clause-fits
returns-clause-fits g c = c.steps_by_known.ensures.fits

pub returns-clause-covers : goal.returns-clause-covers
returns-clause-covers g c =
    let source = c.args.source in
    let made = c.as_slice-2.ensures ∙ c.in_ok-known.ensures ∙ ap (formulas_with_exits source.known.now) c.as_slice.ensures in
    IfOk-weaker c.steps_by_known.result (λ steps. AllByRecursion (CoversState source.program.now c.as_slice-2.result.now steps) source.states.now)
    (λ steps. AllByRecursion (CoversState source.program.now (formulas_with_exits source.known.now c.args.table.now.exits) steps) source.states.now)
    (λ steps h. subst (λ known. AllByRecursion (CoversState source.program.now known steps) source.states.now) made h) c.steps_by_known.ensures.covers

pub returns-in_err-known-clause-follows : goal.returns-in_err-known-clause-follows
returns-in_err-known-clause-follows g c = stops _ _ _ _ _ _ refl c.from_residual.ensures.1
