use Rattle.std.proofs.Common.{◌++◌, ap, ◌∙◌}
use Rattle.forward_graphs.proofs.Groups.{concat-next}
use Rattle.forward_graphs.proofs.order.concatenation.Goals as goal

pub loop-group-preserved : goal.loop-group-preserved
loop-group-preserved c = concat-next c.args.groups.now c.loop-group.group-index c.loop-group.made c.append.new.self c.group-item.result c.loop-group-test.true c.group-item.is c.loop-group.invariant
    (c.in_ok-append.ensures.ok ∙ ap (λ r. c.loop-group.made ++ r) (c.in_ok-from_slice.ensures ∙ c.as_slice.ensures))
