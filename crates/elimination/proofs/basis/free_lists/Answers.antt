use Rattle.std.proofs.Common.{◌≡◌, ◌++◌, ◌∷◌, ◌∙◌, [], ap, rules, List, length, ℤ}
use Rattle.farkas_check.specs.Ratios.{Fraction}
use Rattle.elimination.specs.BasisParts.{dual_multiples}
use Rattle.simplex.proofs.Behind.{mapped-next}
use Rattle.elimination.proofs.basis.free_lists.Goals as goal

pub loop-dual-preserved : goal.loop-dual-preserved
loop-dual-preserved c =
    let f : List ℤ → List Fraction = dual_multiples (length c.args.columns.now) c.args.probes.now c.args.inners.now in
    let x = c.dual-item.result in
    let more : c.push.new.self ≡ c.loop-dual.made ++ f x ∷ [] = search rules in
    mapped-next f c.args.duals.now c.loop-dual.made c.push.new.self c.loop-dual.dual-index x c.loop-dual-test.true c.loop-dual.invariant (more ∙ ap (λ y. c.loop-dual.made ++ f y ∷ []) c.dual-item.is)
