use Rattle.std.proofs.Common.{◌∙◌, ◌≤◌, ap, length, sym, subst}
use Rattle.std.proofs.lemmas.Bool.{false≢true}
use Rattle.std.specs.Prelude.{slice_get}
use Rattle.std.specs.Option.{option_copied}
use Rattle.kept_groups.proofs.AlikeSearch.{alike-found, alike-words, got, none-all, none-next, placed}
use Rattle.kept_groups.proofs.alike.alike_part_of.Goals as goal

pub returns-then-is_alike : goal.returns-then-is_alike
returns-then-is_alike c =
    let program = c.args.program.now in
    let kept = c.args.kept.now in
    let known = c.args.known.now in
    let planned = c.args.planned.now in
    let other = c.other-item.result in
    let at = placed kept.plan c.as_slice-other-items.result.now c.loop-place.place other c.as_slice-other-items.ensures c.loop-place-test.true c.other-item.is in
    let words = alike-words program known planned kept c.as_slice.result.now c.args.kept_known.now other c.as_slice.ensures c.requires.known in
    alike-found program known planned kept c.loop-place.place other c.requires.kept at (subst (λ T. T) words (c.is_alike.ensures.0 c.if-is_alike.true))
    (option_copied c.get.result)
    (got _ c.get.result c.as_slice-then-is_alike.result.now c.loop-place.place c.get.ensures.lookup.1 c.get.ensures.lookup.3 ∙ ap (λ parts. slice_get parts c.loop-place.place) c.as_slice-then-is_alike.ensures)

pub loop-place-preserved : goal.loop-place-preserved
loop-place-preserved c =
    let program = c.args.program.now in
    let kept = c.args.kept.now in
    let known = c.args.known.now in
    let planned = c.args.planned.now in
    let other = c.other-item.result in
    let at = placed kept.plan c.as_slice-other-items.result.now c.loop-place.place other c.as_slice-other-items.ensures c.loop-place-test.true c.other-item.is in
    let words = alike-words program known planned kept c.as_slice.result.now c.args.kept_known.now other c.as_slice.ensures c.requires.known in
    none-next program known planned kept c.loop-place.place other at (λ alike. false≢true (sym c.if-is_alike.false ∙ c.is_alike.ensures.1 (subst (λ T. T) (sym words) alike))) c.loop-place.invariant

pub returns : goal.returns
returns c =
    none-all c.args.program.now c.args.known.now c.args.planned.now c.args.kept.now c.loop-place.place
    (subst (λ plan. length plan ≤ c.loop-place.place) c.as_slice-other-items.ensures c.loop-place-test.false) c.loop-place.invariant
