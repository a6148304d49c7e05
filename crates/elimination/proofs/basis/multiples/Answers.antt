use Rattle.std.proofs.Common.{◌≡◌, ◌++◌, ◌∷◌, [], get_or, rules, length, ℤ, pos, ◌*ℤ◌}
use Rattle.farkas_check.specs.Ratios.{Fraction, lowest_terms}
use Rattle.farkas_check.specs.Relations.{entry}
use Rattle.simplex.proofs.Behind.{mapped-next}
use Rattle.elimination.proofs.basis.multiples.Goals as goal

pub loop-weight-preserved : goal.loop-weight-preserved
loop-weight-preserved c =
    let f : ℤ → Fraction = λ w. lowest_terms (entry c.args.dual.now c.args.place *ℤ w) (entry c.args.dual.now (length c.args.probes.now)) in
    let more : c.push.new.self ≡ c.loop-weight.made ++ f (get_or c.args.taken.now c.loop-weight.weight-index (pos 0)) ∷ [] = search rules in
    mapped-next f c.args.taken.now c.loop-weight.made c.push.new.self c.loop-weight.weight-index (pos 0) c.loop-weight-test.true c.loop-weight.invariant more
