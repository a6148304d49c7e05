use Rattle.std.proofs.Common.{◌<◌, subst, arith}
use Rattle.path_expr.specs.Holds.{IsWay, node_at}
use Rattle.path_expr.proofs.RunLemmas.{Makes-as, Makes-good}
use Rattle.path_expr.proofs.ArrivalLemmas.{way_operations-later, way_at-later}
use Rattle.path_expr.proofs.arrival.way.Goals as goal

pub first_way-requires : goal.first_way-requires
first_way-requires g c = (c.requires.holds.0, c.requires.holds.1, c.requires.holds.2)

pub later_way-requires-clause-holds : goal.later_way-requires-clause-holds
later_way-requires-clause-holds g c =
    let pos : 0 < c.args.n = omega arith in
    (c.requires.holds.0, c.requires.holds.1, c.requires.holds.2, c.requires.holds.3, c.requires.holds.4 pos)

pub returns-then-n-eq0-clause-made : goal.returns-then-n-eq0-clause-made
returns-then-n-eq0-clause-made g c = λ source f h hw ht. rw c.if-n-eq0.true (c.first_way.ensures.made source f h)

pub returns-else-n-eq0-clause-made : goal.returns-else-n-eq0-clause-made
returns-else-n-eq0-clause-made g c = λ source f h hw ht.
    let pos : 0 < c.args.n = omega arith in
    Makes-as (way_operations-later f c.args.n pos) (Makes-good (c.later_way.ensures.made source f h hw (ht pos))
    (λ way. subst (λ p. IsWay g.A.Algebra.fits g.A.Algebra.spans c.later_way.new.algebra p way (node_at source 0) (node_at source c.args.n)) (way_at-later f c.args.n pos)))
