use Rattle.std.proofs.Common.{refl}
use Rattle.posing.proofs.Following.{leads_none, loop_ends}
use Rattle.posing.proofs.Steps.{each_fails, each_next}
use Rattle.point_steps.proofs.Carrying.{each-at}
use Rattle.point_rounds.specs.Parts.{IsReadBy}
use Rattle.point_rounds.specs.Rounds.{with_case}
use Rattle.point_rounds.proofs.falling.with_each_case.Goals as goal

pub loop-case-init : goal.loop-case-init
loop-case-init g c = leads_none _ _ _ _

pub with_case-requires : goal.with_case-requires
with_case-requires g c = each-at (IsReadBy c.args.ends) c.args.cases.now c.args.cases.now c.loop-case.case-index c.case-item.result c.requires refl c.loop-case-test.true c.case-item.is

pub loop-case-preserved : goal.loop-case-preserved
loop-case-preserved g c =
    each_next (with_case c.args.ends.columns c.args.ends.source.now c.args.ends.place c.args.ends.rows.now) _ _ c.loop-case.invariant c.loop-case-test.true c.case-item.is c.in_ok-all.ensures

pub returns-in_err-all : goal.returns-in_err-all
returns-in_err-all g c =
    each_fails (with_case c.args.ends.columns c.args.ends.source.now c.args.ends.place c.args.ends.rows.now) _ _ c.loop-case.invariant c.loop-case-test.true c.case-item.is c.in_err-all.ensures c.from_residual.ensures.1

pub returns : goal.returns
returns g c = loop_ends _ _ _ _ _ _ (with_case c.args.ends.columns c.args.ends.source.now c.args.ends.place c.args.ends.rows.now) _ c.args.cases.now c.loop-case.case-index c.loop-case.invariant c.loop-case-test.false
