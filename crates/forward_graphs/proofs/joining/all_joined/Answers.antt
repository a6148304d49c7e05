use Rattle.std.proofs.Common.{◌<◌, length, get_or, sym, subst}
use Rattle.std.proofs.lemmas.List.{get_or_default}
use Rattle.posing.specs.Follows.{Leads}
use Rattle.posing.specs.Posing.{each}
use Rattle.posing.proofs.Following.{leads_none}
use Rattle.posing.proofs.Steps.{each_next, each_fails, value_has}
use Rattle.forward_graphs.specs.declared.joining.Joining.{Joining}
use Rattle.forward_graphs.specs.Evaluation.{all_steps, no_steps, with_joined}
use Rattle.forward_graphs.specs.Graph.{graph_in}
use Rattle.forward_graphs.specs.UnderWay.{AreSteps}
use Rattle.forward_graphs.proofs.Groups.{each-or}
use Rattle.forward_graphs.proofs.StepLaws.{joined-known}
use Rattle.forward_graphs.proofs.joining.all_joined.Goals as goal

pub loop-number-init : goal.loop-number-init
loop-number-init g c =
    subst
    (λ (joining : Joining). Leads g.O.Oracle.asking c.args.oracle.now c.args.oracle.now c.args.log.now c.args.log.now (each (with_joined (graph_in c.args.graph) c.args.steps.now) no_steps c.args.order.now)
    (each (with_joined (graph_in c.args.graph) c.args.steps.now) joining c.args.order.now) × AreSteps (graph_in c.args.graph) (all_steps joining))
    (sym c.no_steps-joining.ensures) (leads_none _ _ _ _, tt)

pub with_joined-requires : goal.with_joined-requires
with_joined-requires g c = record {
  known = c.requires.steps;
  made = c.loop-number.invariant.1;
  is = each-or (λ n. n < length c.args.steps.now) c.args.order.now c.loop-number.number-index 0 c.requires.order c.loop-number-test.true;
}

pub returns-in_err-joining : goal.returns-in_err-joining
returns-in_err-joining g c =
    each_fails (with_joined (graph_in c.args.graph) c.args.steps.now) _ _ c.loop-number.invariant.0 c.loop-number-test.true (get_or_default c.args.order.now c.loop-number.number-index _ _ c.loop-number-test.true)
    c.in_err-joining.ensures c.from_residual.ensures.1

pub loop-number-preserved : goal.loop-number-preserved
loop-number-preserved g c = (
  each_next (with_joined (graph_in c.args.graph) c.args.steps.now) _ _ c.loop-number.invariant.0 c.loop-number-test.true (get_or_default c.args.order.now c.loop-number.number-index _ _ c.loop-number-test.true)
      c.in_ok-joining.ensures,
  value_has (λ next. AreSteps (graph_in c.args.graph) (all_steps next)) c.in_ok-joining.ensures
      (joined-known (graph_in c.args.graph) c.args.steps.now c.requires.steps (get_or c.args.order.now c.loop-number.number-index 0) c.loop-number.joining
      (each-or (λ n. n < length c.args.steps.now) c.args.order.now c.loop-number.number-index 0 c.requires.order c.loop-number-test.true) c.loop-number.invariant.1),
)
