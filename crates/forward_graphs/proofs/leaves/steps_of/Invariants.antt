use Rattle.std.proofs.Common.{[], drop}
use Rattle.posing.specs.Follows.{Leads}
use Rattle.posing.specs.Posing.{each}
use Rattle.forward_graphs.specs.Evaluation.{with_leaf}
use Rattle.forward_graphs.specs.Graph.{graph_in}
use Rattle.forward_graphs.proofs.leaves.steps_of.Given as goal

abbrev pub invariant-loop-number : goal.invariant-loop-number
invariant-loop-number g l =
    Leads g.O.Oracle.asking l.initial.oracle l.oracle l.initial.log l.log (each (with_leaf (graph_in l.graph)) [] l.numbers) (each (with_leaf (graph_in l.graph)) l.made (drop l.number-index l.numbers))
