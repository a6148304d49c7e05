use Rattle.elimination.proofs.answering.sup.Goals as goal
use Rattle.elimination.proofs.Narrowness.{slim_sup}

-- src/answering.rt:27:1
pub returns-clause-slim : goal.returns-clause-slim
returns-clause-slim c = slim_sup c.args.goals.now c.sup.result c.sup.ensures.pivots
