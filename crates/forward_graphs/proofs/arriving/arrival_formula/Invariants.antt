use Rattle.std.proofs.Common.{None, drop}
use Rattle.posing.specs.Follows.{Leads}
use Rattle.posing.specs.Posing.{each}
use Rattle.forward_graphs.specs.Evaluation.{with_arrival}
use Rattle.checked_tree.specs.Graph.{vocabulary_at}
use Rattle.forward_graphs.specs.UnderWay.{graph_of, IsFound}
use Rattle.forward_graphs.proofs.arriving.arrival_formula.Given as goal

abbrev pub invariant-loop-number : goal.invariant-loop-number
invariant-loop-number g l =
    Leads g.O.Oracle.asking l.initial.oracle l.oracle l.initial.log l.log (each (with_arrival (graph_of l.walks) l.walks.source l.walks.steps.now l.cells l.node) None l.numbers)
    (each (with_arrival (graph_of l.walks) l.walks.source l.walks.steps.now l.cells l.node) l.found (drop l.number-index l.numbers))
    × IsFound (vocabulary_at (graph_of l.walks) l.walks.source) (vocabulary_at (graph_of l.walks) l.node) l.found
