use Rattle.std.proofs.Common.{ap, sym}
use Rattle.posing.proofs.Steps.{at_end, in_other_words}
use Rattle.forward_graphs.specs.Evaluation.{joining_after}
use Rattle.forward_graphs.specs.Graph.{graph_in}
use Rattle.forward_graphs.proofs.joining.joining_after.Goals as goal

pub returns-in_ok-joining_of-in-None : goal.returns-in_ok-joining_of-in-None
returns-in_ok-joining_of-in-None g c =
    in_other_words (ap (λ last. joining_after (graph_in c.args.graph) c.args.done last c.args.step.now) (sym c.in-None.is)) (at_end c.in_ok-joining_of-in-None.ensures)
