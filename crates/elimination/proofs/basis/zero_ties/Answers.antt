use Rattle.std.proofs.Common.{◌≡◌, ◌++◌, ◌∷◌, ◌∙◌, [], ap, rules}
use Rattle.farkas_check.specs.declared.stratum.Change.{Change}
use Rattle.farkas_check.specs.declared.stratum.Tie.{Tie}
use Rattle.elimination.specs.BasisParts.{zero_tie}
use Rattle.simplex.proofs.Behind.{mapped-next}
use Rattle.elimination.proofs.basis.zero_ties.Goals as goal

pub loop-case-preserved : goal.loop-case-preserved
loop-case-preserved c =
    let f : Change → Tie = zero_tie in
    let x = c.case-item.result in
    let more : c.push.new.self ≡ c.loop-case.made ++ f x ∷ [] = search rules in
    mapped-next f c.args.cases.now c.loop-case.made c.push.new.self c.loop-case.case-index x c.loop-case-test.true c.loop-case.invariant (more ∙ ap (λ y. c.loop-case.made ++ f y ∷ []) c.case-item.is)
