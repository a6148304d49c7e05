use Rattle.std.proofs.Common.{rules, length}
use Rattle.simplex.specs.Relations.{IsRelationWith}
use Rattle.simplex.proofs.Courses.{known-relation}
use Rattle.simplex.proofs.strata.relation_added.Goals as goal

pub returns-clause-course : goal.returns-clause-course
returns-clause-course c =
    let made : IsRelationWith c.args.strata.now.terms (length c.args.strata.now.lower.now) c.args.numbers.now c.args.ties c.in_ok-relation.relation = search rules in
    known-relation c.args.strata.now c.args.known c.in_ok-more.more c.args.numbers.now c.args.ties c.in_ok-relation.relation c.requires.known c.requires.next c.requires.free c.requires.relation made c.requires.tied c.requires.small
    c.in_ok-more.ensures.next c.in_ok-more.ensures.start c.in_ok-more.ensures.spots c.in_ok-more.ensures.relations
