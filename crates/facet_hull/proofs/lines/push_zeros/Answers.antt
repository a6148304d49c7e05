use Rattle.std.proofs.Common.{◌++◌, arith}
use Rattle.cones.specs.Split.{zeros}
use Rattle.cones.proofs.Units.{zeros_next}
use Rattle.facet_hull.proofs.lines.push_zeros.Goals as goal

pub loop-place-preserved : goal.loop-place-preserved
loop-place-preserved c =
    zeros_next c.loop-place._place c.args.count c.loop-place.made c.push.new.self (c.args.made.now ++ zeros c.args.count) (omega arith) c.loop-place.invariant c.in_ok-push.ensures.ok
