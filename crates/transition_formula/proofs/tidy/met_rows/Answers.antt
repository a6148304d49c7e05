use Rattle.std.proofs.Common.{◌+◌, take, drop, refl, ◌∙◌}
use Rattle.transition_formula.proofs.Meeting.{met-next}
use Rattle.transition_formula.proofs.tidy.met_rows.Goals as goal

pub loop-place-preserved : goal.loop-place-preserved
loop-place-preserved c =
    let rows = c.args.rows.now in
    let i = c.loop-place.place in
    met-next rows i c.index-rows-place.result c.loop-place.made c.push_some.new.rows (take i rows) (drop (i + 1) rows) c.in_ok-row.row c.loop-place-test.true c.index-rows-place.is refl refl
    c.in_ok-row.ensures c.in_ok-push_some.ensures
    ∙ c.loop-place.invariant
