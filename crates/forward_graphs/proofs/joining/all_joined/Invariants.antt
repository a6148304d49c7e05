use Rattle.std.proofs.Common.{drop}
use Rattle.posing.specs.Follows.{Leads}
use Rattle.posing.specs.Posing.{each}
use Rattle.forward_graphs.specs.Evaluation.{all_steps, no_steps, with_joined}
use Rattle.forward_graphs.specs.Graph.{graph_in}
use Rattle.forward_graphs.specs.UnderWay.{AreSteps}
use Rattle.forward_graphs.proofs.joining.all_joined.Given as goal

abbrev pub invariant-loop-number : goal.invariant-loop-number
invariant-loop-number g l =
    Leads g.O.Oracle.asking l.initial.oracle l.oracle l.initial.log l.log (each (with_joined (graph_in l.graph) l.steps) no_steps l.order)
    (each (with_joined (graph_in l.graph) l.steps) l.joining (drop l.number-index l.order))
    × AreSteps (graph_in l.graph) (all_steps l.joining)
