use Rattle.std.proofs.Common.{refl, sym, subst}
use Rattle.polyhedra.specs.Thin.{thinning_at, thinned_rows}
use Rattle.posing.specs.Follows.{Leads}
use Rattle.posing.specs.Posing.{down}
use Rattle.posing.proofs.Following.{leads_none}
use Rattle.posing.proofs.Steps.{down_next, down_fails}
use Rattle.polyhedra.proofs.thinning.thin_rows.Goals as goal

pub loop-place-init : goal.loop-place-init
loop-place-init g c =
    subst (λ n. Leads g.O.Oracle.asking c.args.oracle.now c.args.oracle.now c.args.log.now c.args.log.now (thinned_rows c.args.rows) (down thinning_at c.args.rows n)) (sym c.len-place.ensures) (leads_none _ _ _ _)

pub returns-in_err-left : goal.returns-in_err-left
returns-in_err-left g c = down_fails thinning_at _ c.loop-place.invariant c.loop-place-test.true refl c.in_err-left.ensures c.from_residual.ensures.1

pub loop-place-preserved : goal.loop-place-preserved
loop-place-preserved g c = down_next thinning_at _ c.loop-place.invariant c.loop-place-test.true refl c.in_ok-left.ensures
