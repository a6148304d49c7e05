use Rattle.std.proofs.Common.{◌≡◌, ◌++◌, ◌∷◌, ◌∙◌, [], ap, rules}
use Rattle.farkas_check.specs.Relations.{numbers_of}
use Rattle.simplex.proofs.Behind.{mapped-next}
use Rattle.simplex.proofs.strata.number_lists.Goals as goal

pub loop-relation-preserved : goal.loop-relation-preserved
loop-relation-preserved c =
    let relations = c.args.relations.now in
    let i = c.loop-relation.relation-index in
    let relation = c.relation-item.result in
    let more : c.push.new.self ≡ c.loop-relation.made ++ numbers_of relation ∷ [] = search rules in
    mapped-next numbers_of relations c.loop-relation.made c.push.new.self i relation c.loop-relation-test.true c.loop-relation.invariant
    (more ∙ ap (λ r. c.loop-relation.made ++ numbers_of r ∷ []) c.relation-item.is)
