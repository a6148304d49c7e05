use Rattle.transition_formula.specs.Meaning.{HoldsOfChains}
use Rattle.polyhedra.proofs.Results.{result_has}
use Rattle.recurrence.specs.Law.{IsStar}
use Rattle.recurrence.proofs.Whole.{star-holds-of-chains, star-fits}
use Rattle.recurrence.proofs.repeating.star.Goals as goal

pub returns-clause-follows : goal.returns-clause-follows
returns-clause-follows g c = c.repeated_body.ensures

pub returns-clause-holds : goal.returns-clause-holds
returns-clause-holds g c = result_has (HoldsOfChains c.args.body.now) c.repeated_body.result c.repeated_body.ensures (star-holds-of-chains c.args.body.now c.args.voc.now c.requires)

pub returns-clause-fits : goal.returns-clause-fits
returns-clause-fits g c = result_has (IsStar c.args.body.now.to) c.repeated_body.result c.repeated_body.ensures (star-fits c.args.body.now c.args.voc.now c.requires)
