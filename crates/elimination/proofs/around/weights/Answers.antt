use Rattle.std.proofs.Common.{arith}
use Rattle.elimination.proofs.AroundWeights.{weights_answer}
use Rattle.elimination.proofs.around.weights.Goals as goal

pub weights_to-requires-clause-small : goal.weights_to-requires-clause-small
weights_to-requires-clause-small c = record { few = omega (arith, c.requires.each, c.requires.few); positive = c.requires.positive; over_small = c.requires.over_small; small = c.requires.small }

pub returns : goal.returns
returns c = weights_answer c.args.columns c.args.inner.now c.args.place c.weights_to.result c.weights_to.ensures
