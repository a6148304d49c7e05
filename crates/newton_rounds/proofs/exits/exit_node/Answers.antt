use Rattle.newton_rounds.proofs.Widths.{exit-node}
use Rattle.newton_rounds.proofs.exits.exit_node.Goals as goal

pub returns : goal.returns
returns c = λ p is. exit-node c.args.program.now c.args.proc p c.requires.formed is c.in_ok-graph.graph c.in_ok-graph.ensures.exact
