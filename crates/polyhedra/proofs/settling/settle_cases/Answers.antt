use Rattle.std.proofs.Common.{sym, subst}
use Rattle.posing.specs.Follows.{Leads}
use Rattle.posing.specs.Posing.{each}
use Rattle.transition_formula.specs.Transition.{IsSolvable}
use Rattle.polyhedra.specs.Settle.{settled_cases, with_settled}
use Rattle.posing.proofs.Following.{leads_none}
use Rattle.posing.proofs.Steps.{each_next, each_fails}
use Rattle.polyhedra.proofs.settling.settle_cases.Goals as goal

pub loop-case-init : goal.loop-case-init
loop-case-init g c =
    subst (λ made. Leads g.O.Oracle.asking c.args.oracle.now c.args.oracle.now c.args.log.now c.args.log.now (settled_cases c.args.cases.now) (each with_settled made c.args.cases.now))
    (sym c.new-made.ensures) (leads_none _ _ _ _)

pub add_settled-requires : goal.add_settled-requires
add_settled-requires g c = subst IsSolvable (sym c.case-item.is) (c.requires c.loop-case.case-index c.case-item.result c.loop-case-test.true)

pub returns-in_err-made : goal.returns-in_err-made
returns-in_err-made g c = each_fails with_settled _ _ c.loop-case.invariant c.loop-case-test.true c.case-item.is c.in_err-made.ensures c.from_residual.ensures.1

pub loop-case-preserved : goal.loop-case-preserved
loop-case-preserved g c = each_next with_settled _ _ c.loop-case.invariant c.loop-case-test.true c.case-item.is c.in_ok-made.ensures
