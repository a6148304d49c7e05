use Rattle.std.proofs.Common.{[], drop}
use Rattle.posing.specs.Follows.{Leads}
use Rattle.posing.specs.Posing.{each}
use Rattle.forward_graphs.specs.Evaluation.{with_node}
use Rattle.forward_graphs.specs.UnderWay.{graph_of}
use Rattle.forward_graphs.proofs.CellLaws.{KeepsCells}
use Rattle.forward_graphs.proofs.walking.cells_of.Given as goal

abbrev pub invariant-loop-node : goal.invariant-loop-node
invariant-loop-node g l =
    Leads g.O.Oracle.asking l.initial.oracle l.oracle l.initial.log l.log (each (with_node (graph_of l.walks) l.walks.source l.walks.steps.now) [] l.nodes)
    (each (with_node (graph_of l.walks) l.walks.source l.walks.steps.now) l.cells (drop l.node-index l.nodes))
    × KeepsCells (graph_of l.walks) l.walks.source l.walks.steps.now (drop l.node-index l.nodes) l.cells
