use Rattle.std.proofs.Common.{rules, refl, ◌≡◌, ◌++◌, [], ◌∷◌}
use Rattle.simplex.proofs.Courses.{unchosen}
use Rattle.simplex.proofs.Echelons.{relations-with}
use Rattle.simplex.proofs.spots.with_unknown.Goals as goal

pub returns-in_ok-push-in-None-clause-relations : goal.returns-in_ok-push-in-None-clause-relations
returns-in_ok-push-in-None-clause-relations c =
    let all : c.push.new.self ≡ c.args.made ++ c.in_ok-relation-in-None.relation ∷ [] = search rules in
    relations-with c.args.count c.args.known.now c.args.unknown c.args.made c.push.new.self c.in_ok-relation-in-None.relation c.line_choosing.result c.requires.known c.requires.unknown (search rules) c.in-None.is c.in_ok-relation-in-None.ensures.relation c.requires.before all

pub relation_of-requires : goal.relation_of-requires
relation_of-requires c = (refl, (c.requires.known, (c.requires.unknown, unchosen c.args.count c.args.known.now c.args.unknown c.line_choosing.result c.requires.known (search rules) c.in-None.is)))
