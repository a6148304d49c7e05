use Rattle.std.proofs.Common.{rules, ◌≡◌, ◌++◌, [], ◌∷◌}
use Rattle.std.specs.Int.{w128}
use Rattle.std.proofs.lemmas.Int.{to_z-of_z}
use Rattle.elimination.proofs.AroundWeights.{weights_more}
use Rattle.elimination.proofs.around.weights_to.Goals as goal

pub loop-spot-preserved : goal.loop-spot-preserved
loop-spot-preserved c =
    let pushed : c.push.new.self ≡ c.loop-spot.made ++ c.weight_at.result ∷ [] = rw (to_z-of_z w128 c.weight_at.result (search rules)) at c.in_ok-push.ensures.ok in
    weights_more c.args.columns c.args.inner.now c.args.place c.loop-spot.spot c.loop-spot.made c.push.new.self c.weight_at.result c.loop-spot.invariant c.weight_at.ensures pushed
