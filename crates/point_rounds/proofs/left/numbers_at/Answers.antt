use Rattle.std.proofs.Common.{◌∙◌}
use Rattle.std.proofs.lemmas.List.{get_or_default}
use Rattle.point_rounds.proofs.LeftRows.{numbers-next}
use Rattle.point_rounds.proofs.left.numbers_at.Goals as goal

pub loop-row-preserved : goal.loop-row-preserved
loop-row-preserved c =
    numbers-next c.args.place c.args.fallen.now c.loop-row.row-index _ c.loop-row.numbers c.in_ok-numbers.numbers c.loop-row-test.true (get_or_default c.args.fallen.now c.loop-row.row-index _ _ c.loop-row-test.true) c.in_ok-numbers.ensures
    ∙ c.loop-row.invariant
