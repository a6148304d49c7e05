use Rattle.std.proofs.Common.{true, false, ◌≤◌, length, refl, sym, ap, arith}
use Rattle.std.proofs.lemmas.Option.{slice_get_past}
use Rattle.posing.proofs.Steps.{at_end, in_other_words}
use Rattle.cost_bounds.specs.Small.{row_trial, without_row}
use Rattle.cost_bounds.proofs.QuestionRows.{row-there}
use Rattle.cost_bounds.proofs.small.without_row.Goals as goal

pub returns-then-place-len : goal.returns-then-place-len
unfolding without_row
returns-then-place-len g c =
    let past : length c.args.kept.rows ≤ c.args.place = omega arith in
    in_other_words (ap (λ o. row_trial c.args.kind c.args.last.now c.args.kept c.args.place o) (sym (slice_get_past c.args.kept.rows c.args.place past))) (at_end refl)

pub returns-then-is_of : goal.returns-then-is_of
unfolding without_row
returns-then-is_of g c =
    let len = ap length c.deref.ensures in
    in_other_words
    (row-there c.args.kind c.args.last.now c.args.kept c.deref.result.now c.args.place c.index-deref-place.result true c.is_of.result c.deref.ensures (omega arith) c.index-deref-place.is c.is_of.ensures c.if-is_of.true)
    c.trial_without_row.ensures

pub returns-else-is_of : goal.returns-else-is_of
unfolding without_row
returns-else-is_of g c =
    let len = ap length c.deref.ensures in
    in_other_words
    (row-there c.args.kind c.args.last.now c.args.kept c.deref.result.now c.args.place c.index-deref-place.result false c.is_of.result c.deref.ensures (omega arith) c.index-deref-place.is c.is_of.ensures c.if-is_of.false)
    (at_end refl)
