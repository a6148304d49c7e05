use Rattle.std.proofs.Common.{refl, sym, subst, length, rules}
use Rattle.std.proofs.lemmas.Option.{slice_get_read}
use Rattle.commands.specs.Cost.{IsCostOf}
use Rattle.commands.proofs.Pairs.{AreSoFar, so-far-all, so-far-next, so-far-none}
use Rattle.commands.proofs.costing.case_costs.Goals as goal

pub loop-case-init : goal.loop-case-init
loop-case-init c = subst (AreSoFar (IsCostOf c.args.number) c.args.cases.now 0) (sym c.new-costs.ensures) (so-far-none (IsCostOf c.args.number) c.args.cases.now)

pub case_cost-requires : goal.case_cost-requires
case_cost-requires c =
    let lt = c.loop-case-test.true in
    c.requires.each c.loop-case.case-index c.case-item.result (slice_get_read c.args.cases.now (length c.args.cases.now) c.loop-case.case-index c.case-item.result refl lt c.case-item.is)

pub loop-case-preserved : goal.loop-case-preserved
loop-case-preserved c =
    let lt = c.loop-case-test.true in
    so-far-next (IsCostOf c.args.number) c.args.cases.now c.loop-case.case-index c.loop-case.costs c.case-item.result c.in_ok-cost.cost c.push.new.self c.loop-case.invariant
    (slice_get_read c.args.cases.now (length c.args.cases.now) c.loop-case.case-index c.case-item.result refl lt c.case-item.is) c.in_ok-cost.ensures c.in_ok-push.ensures.ok

pub returns : goal.returns
returns c = so-far-all (IsCostOf c.args.number) c.args.cases.now c.loop-case.case-index c.loop-case.costs c.loop-case.invariant (search rules)
