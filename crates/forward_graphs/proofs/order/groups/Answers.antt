use Rattle.std.proofs.Common.{◌<◌, get_or, sym, subst, take}
use Rattle.std.proofs.lemmas.List.{get_or_default}
use Rattle.forward_graphs.specs.Placing.{IsPlaced}
use Rattle.forward_graphs.proofs.Groups.{each-or, groups-begin, groups-length, groups-next, placed-within}
use Rattle.forward_graphs.proofs.order.groups.Goals as goal

pub loop-number-init : goal.loop-number-init
loop-number-init c = groups-begin c.args.steps.now c.args.end c.args.nodes c.in_ok-made.made c.in_ok-made.ensures

pub with_number-requires : goal.with_number-requires
with_number-requires c =
    subst (λ n. c.node_at-node.result < n) (sym (groups-length c.args.nodes c.args.steps.now c.args.end (take c.loop-number.number-index c.args.numbers.now) c.loop-number.made c.loop-number.invariant))
    (subst (λ n. n < c.args.nodes) (sym c.node_at-node.ensures)
    (placed-within c.args.nodes c.args.steps.now c.args.end (get_or c.args.numbers.now c.loop-number.number-index 0)
    (each-or (IsPlaced c.args.nodes c.args.steps.now) c.args.numbers.now c.loop-number.number-index 0 c.requires c.loop-number-test.true)))

pub loop-number-preserved : goal.loop-number-preserved
loop-number-preserved c =
    groups-next c.args.nodes c.args.steps.now c.args.end c.args.numbers.now c.loop-number.number-index (get_or c.args.numbers.now c.loop-number.number-index 0) c.node_at-node.result c.loop-number.made
    c.in_ok-made-2.made c.loop-number-test.true (get_or_default c.args.numbers.now c.loop-number.number-index 0 _ c.loop-number-test.true) c.node_at-node.ensures
    (placed-within c.args.nodes c.args.steps.now c.args.end (get_or c.args.numbers.now c.loop-number.number-index 0)
    (each-or (IsPlaced c.args.nodes c.args.steps.now) c.args.numbers.now c.loop-number.number-index 0 c.requires c.loop-number-test.true))
    c.loop-number.invariant c.in_ok-made-2.ensures
