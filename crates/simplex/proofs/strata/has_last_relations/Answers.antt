use Rattle.std.proofs.Common.{rules}
use Rattle.simplex.proofs.Courses.{same_relations}
use Rattle.simplex.proofs.strata.has_last_relations.Goals as goal

pub returns-clause-all : goal.returns-clause-all
returns-clause-all c = same_relations c.eq.result c.args.count c.args.known.now.spots.tableau c.in_ok-own.own c.in_ok-last.last c.args.known.now.relations c.eq.ensures (search rules) c.in_ok-last.ensures.relations
