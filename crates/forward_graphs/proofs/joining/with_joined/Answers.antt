use Rattle.std.proofs.Common.{ap}
use Rattle.posing.proofs.Steps.{in_other_words}
use Rattle.forward_graphs.specs.Evaluation.{joining_after, with_joined}
use Rattle.forward_graphs.specs.Graph.{graph_in}
use Rattle.forward_graphs.proofs.joining.with_joined.Goals as goal

pub returns : goal.returns
unfolding with_joined
returns g c = in_other_words (ap (joining_after (graph_in c.args.graph) c.args.joining.done c.args.joining.last) c.step_at.ensures) c.joining_after.ensures
