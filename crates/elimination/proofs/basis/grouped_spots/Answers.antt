use Rattle.std.proofs.Common.{rules, arith}
use Rattle.elimination.proofs.BasisSteps.{groups-more, groups-end}
use Rattle.elimination.proofs.basis.grouped_spots.Goals as goal

pub loop-place-preserved : goal.loop-place-preserved
loop-place-preserved c =
    groups-more c.args.columns.now c.args.asked.now.cases c.args.probes.now c.args.inners.now c.loop-place.place c.loop-place.made c.append.new.self c.in_ok-group_at.field-0
    (omega arith) c.requires.inside.each c.loop-place.invariant (search rules) (search rules)

pub returns : goal.returns
returns c = groups-end c.args.columns.now c.args.asked.now.cases c.args.probes.now c.args.inners.now c.loop-place.place c.loop-place.made (omega arith) c.loop-place.invariant
