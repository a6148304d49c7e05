use Rattle.std.proofs.Common.{[], sym, subst}
use Rattle.posing.specs.Follows.{Leads}
use Rattle.posing.specs.Posing.{each}
use Rattle.posing.proofs.Following.{leads_none}
use Rattle.posing.proofs.Steps.{each_fails, each_next}
use Rattle.newton_rounds.specs.Candidates.{with_judged}
use Rattle.newton_rounds.specs.Shapes.{IsRefutable}
use Rattle.newton_rounds.proofs.GroupGraphs.{each-read}
use Rattle.newton_rounds.proofs.rounds.judgements_by.Goals as goal

pub loop-row-init : goal.loop-row-init
loop-row-init g c =
    let step = with_judged c.args.f.now in
    subst (λ made. Leads g.O.Oracle.asking c.args.oracle.now c.args.oracle.now c.args.log.now c.args.log.now (each step [] c.args.rows.now) (each step made c.args.rows.now)) (sym c.new-judged.ensures) (leads_none _ _ _ _)

pub with_judged-requires : goal.with_judged-requires
with_judged-requires g c = each-read (IsRefutable c.args.f.now) c.args.rows.now c.loop-row.row-index c.row-item.result c.loop-row-test.true c.row-item.is c.requires

pub returns-in_err-judged : goal.returns-in_err-judged
returns-in_err-judged g c = each_fails (with_judged c.args.f.now) _ _ c.loop-row.invariant c.loop-row-test.true c.row-item.is c.in_err-judged.ensures c.from_residual.ensures.1

pub loop-row-preserved : goal.loop-row-preserved
loop-row-preserved g c = each_next (with_judged c.args.f.now) _ _ c.loop-row.invariant c.loop-row-test.true c.row-item.is c.in_ok-judged.ensures
