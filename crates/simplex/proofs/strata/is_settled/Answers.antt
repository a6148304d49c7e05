use Rattle.simplex.proofs.CalmSearches.{known_calm}
use Rattle.simplex.proofs.CalmSteps.{under_error}
use Rattle.simplex.proofs.StrataStops.{known_stop}
use Rattle.simplex.proofs.strata.is_settled.Goals as goal

pub returns-clause-refusal : goal.returns-clause-refusal
returns-clause-refusal c =
    under_error c.args.strata.now c.args.strata.now.count c.args.known.now.spots.lines c.has_last_relations.result c.has_last_relations.ensures.refusal (λ calm. known_calm c.args.strata.now c.args.known.now c.requires.asked c.requires.count c.requires.known calm)
    (known_stop c.args.strata.now c.args.known.now c.has_last_relations.result c.requires.asked c.requires.count c.requires.known c.has_last_relations.ensures.step)
