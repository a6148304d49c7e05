use Rattle.std.proofs.Common.{◌<◌, sym, subst}
use Rattle.polyhedra.proofs.ModifiedVariables.{changes_from-next}
use Rattle.polyhedra.proofs.variables.changes_of.Goals as goal

pub loop-place-preserved : goal.loop-place-preserved
loop-place-preserved c =
    changes_from-next c.args.variables.now c.args.cases.now c.args.tables.now c.loop-place.place c.index-cases-place.result c.index-tables-place.result c.loop-place.changes _ _ c.in_ok-change_of.field-0
    c.loop-place-test.true (subst (λ n. c.loop-place.place < n) (sym c.requires) c.loop-place-test.true) c.index-cases-place.is c.index-tables-place.is c.loop-place.invariant c.in_ok-change_of.ensures c.in_ok-push.ensures.ok
