use Rattle.std.proofs.Common.{subst}
use Rattle.posing.proofs.Steps.{value_has}
use Rattle.forward_graphs.specs.Graph.{graph_in}
use Rattle.forward_graphs.specs.Law.{AreCanonicalCells, AreFittedCells, CellsHold}
use Rattle.forward_graphs.proofs.Whole.{evaluation-fits, evaluation-holds}
use Rattle.forward_graphs.proofs.walking.walk_cells.Goals as goal

pub returns-clause-holds : goal.returns-clause-holds
returns-clause-holds g c =
    value_has (λ cells. AreCanonicalCells cells → CellsHold (graph_in c.args.graph) c.args.source cells) c.in_ok-cells.ensures
    (evaluation-holds (graph_in c.args.graph) c.args.source c.requires c.see_leaves.ensures) (subst AreCanonicalCells c.as_slice.ensures c.see_cells.ensures)

pub returns-clause-fits : goal.returns-clause-fits
returns-clause-fits g c = value_has (AreFittedCells (graph_in c.args.graph) c.args.source) c.in_ok-cells.ensures (evaluation-fits (graph_in c.args.graph) c.args.source c.requires)
