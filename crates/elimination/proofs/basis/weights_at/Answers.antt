use Rattle.elimination.proofs.BasisFacts.{known_at, weights_at-are, weights_at-small}
use Rattle.elimination.proofs.basis.weights_at.Goals as goal

pub returns-clause-are : goal.returns-clause-are
returns-clause-are c =
    weights_at-are c.args.columns.now c.args.asked.now.cases c.args.asked.now.lower c.args.probes.now c.args.inners.now c.args.place (record { case = 0; place = 0 }) c.index-inners-place.result c.in_ok-made.made
    c.requires.asked c.requires.place c.index-inners-place.is c.in_ok-made.ensures

pub returns-clause-small : goal.returns-clause-small
returns-clause-small c =
    weights_at-small c.args.columns.now c.args.asked.now.cases c.args.asked.now.lower c.args.probes.now c.args.inners.now c.args.place (record { case = 0; place = 0 }) c.index-inners-place.result c.in_ok-made.made
    c.requires.asked c.requires.place c.index-inners-place.is c.in_ok-made.ensures

pub weights-requires-clause-few : goal.weights-requires-clause-few
weights-requires-clause-few c =
    (known_at c.args.columns.now c.args.asked.now.cases c.args.asked.now.lower c.args.probes.now c.args.inners.now c.args.place (record { case = 0; place = 0 }) c.index-inners-place.result c.requires.asked c.requires.place c.index-inners-place.is).few

pub weights-requires-clause-each : goal.weights-requires-clause-each
weights-requires-clause-each c =
    (known_at c.args.columns.now c.args.asked.now.cases c.args.asked.now.lower c.args.probes.now c.args.inners.now c.args.place (record { case = 0; place = 0 }) c.index-inners-place.result c.requires.asked c.requires.place c.index-inners-place.is).inside.each

pub weights-requires-clause-within : goal.weights-requires-clause-within
weights-requires-clause-within c =
    (known_at c.args.columns.now c.args.asked.now.cases c.args.asked.now.lower c.args.probes.now c.args.inners.now c.args.place (record { case = 0; place = 0 }) c.index-inners-place.result c.requires.asked c.requires.place c.index-inners-place.is).probe_too.place

pub weights-requires-clause-positive : goal.weights-requires-clause-positive
weights-requires-clause-positive c =
    (known_at c.args.columns.now c.args.asked.now.cases c.args.asked.now.lower c.args.probes.now c.args.inners.now c.args.place (record { case = 0; place = 0 }) c.index-inners-place.result c.requires.asked c.requires.place c.index-inners-place.is).inside.positive

pub weights-requires-clause-over_small : goal.weights-requires-clause-over_small
weights-requires-clause-over_small c =
    (known_at c.args.columns.now c.args.asked.now.cases c.args.asked.now.lower c.args.probes.now c.args.inners.now c.args.place (record { case = 0; place = 0 }) c.index-inners-place.result c.requires.asked c.requires.place c.index-inners-place.is).inside.over_small

pub weights-requires-clause-small : goal.weights-requires-clause-small
weights-requires-clause-small c =
    (known_at c.args.columns.now c.args.asked.now.cases c.args.asked.now.lower c.args.probes.now c.args.inners.now c.args.place (record { case = 0; place = 0 }) c.index-inners-place.result c.requires.asked c.requires.place c.index-inners-place.is).inside.small
