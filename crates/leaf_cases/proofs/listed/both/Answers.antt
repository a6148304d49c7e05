use Rattle.std.proofs.Common.{map, ◌∙◌}
use Rattle.std.specs.List.{flat_map}
use Rattle.transition_formula.proofs.Loops.{one_gathered, all_gathered}
use Rattle.leaf_cases.specs.Listed.{beside}
use Rattle.leaf_cases.specs.Listed as listed
use Rattle.leaf_cases.proofs.listed.both.Goals as goal

pub loop-first-preserved : goal.loop-first-preserved
loop-first-preserved c =
    one_gathered (λ first. map (beside first) c.args.seconds.now) c.args.firsts.now c.loop-first.first-index c.first-item.result c.loop-first.made c.push_beside.new.made
    c.loop-first-test.true c.first-item.is c.in_ok-push_beside.ensures
    ∙ c.loop-first.invariant

pub returns : goal.returns
unfolding listed.both
returns c =
    all_gathered (λ first. map (beside first) c.args.seconds.now) c.args.firsts.now c.loop-first.first-index c.loop-first.made (flat_map (λ first. map (beside first) c.args.seconds.now) c.args.firsts.now)
    c.loop-first-test.false c.loop-first.invariant
