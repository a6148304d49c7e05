use Rattle.std.proofs.Common.{[], sym, subst}
use Rattle.std.proofs.lemmas.List.{get_or_default}
use Rattle.posing.specs.Follows.{Leads}
use Rattle.posing.specs.Posing.{each}
use Rattle.posing.proofs.Following.{leads_none}
use Rattle.posing.proofs.Steps.{each_next, each_fails}
use Rattle.forward_graphs.specs.Evaluation.{with_leaf}
use Rattle.forward_graphs.specs.Graph.{graph_in}
use Rattle.forward_graphs.specs.UnderWay.{IsReadyLink}
use Rattle.forward_graphs.proofs.Groups.{each-or}
use Rattle.forward_graphs.proofs.leaves.steps_of.Goals as goal

pub loop-number-init : goal.loop-number-init
loop-number-init g c =
    subst
    (λ made. Leads g.O.Oracle.asking c.args.oracle.now c.args.oracle.now c.args.log.now c.args.log.now (each (with_leaf (graph_in c.args.graph)) [] c.args.numbers.now) (each (with_leaf (graph_in c.args.graph)) made c.args.numbers.now))
    (sym c.new-made.ensures) (leads_none _ _ _ _)

pub with_leaf-requires : goal.with_leaf-requires
with_leaf-requires g c = each-or (IsReadyLink (graph_in c.args.graph)) c.args.numbers.now c.loop-number.number-index 0 c.requires c.loop-number-test.true

pub returns-in_err-made : goal.returns-in_err-made
returns-in_err-made g c =
    each_fails (with_leaf (graph_in c.args.graph)) _ _ c.loop-number.invariant c.loop-number-test.true (get_or_default c.args.numbers.now c.loop-number.number-index _ _ c.loop-number-test.true) c.in_err-made.ensures
    c.from_residual.ensures.1

pub loop-number-preserved : goal.loop-number-preserved
loop-number-preserved g c =
    each_next (with_leaf (graph_in c.args.graph)) _ _ c.loop-number.invariant c.loop-number-test.true (get_or_default c.args.numbers.now c.loop-number.number-index _ _ c.loop-number-test.true) c.in_ok-made.ensures
