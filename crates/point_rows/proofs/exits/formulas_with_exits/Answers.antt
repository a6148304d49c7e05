use Rattle.std.proofs.Common.{◌∙◌}
use Rattle.point_rows.proofs.ExitTables.{known-next}
use Rattle.point_rows.proofs.exits.formulas_with_exits.Goals as goal

pub loop-place-preserved : goal.loop-place-preserved
loop-place-preserved c =
    known-next c.args.known.now c.args.exits.now c.loop-place.place c.index-known-place.result c.in_ok-formula_with_rows_at.field-0 c.loop-place.made c.push.new.self
    c.loop-place-test.true c.index-known-place.is c.in_ok-formula_with_rows_at.ensures c.in_ok-push.ensures.ok
    ∙ c.loop-place.invariant
