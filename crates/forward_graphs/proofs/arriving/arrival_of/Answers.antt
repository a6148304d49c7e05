use Rattle.std.proofs.Common.{◌<◌, length, ap, subst, sym, ◌∙◌}
use Rattle.forward_graphs.specs.declared.step.Step.{Step}
use Rattle.forward_graphs.specs.Evaluation.{cell_at}
use Rattle.forward_graphs.specs.UnderWay.{graph_of}
use Rattle.forward_graphs.proofs.CellLaws.{next-inside}
use Rattle.forward_graphs.proofs.arriving.arrival_of.Goals as goal

pub cell_at-cell-requires : goal.cell_at-cell-requires
cell_at-cell-requires c =
    subst (λ (step : Step). step.from < length c.args.cells.now) (sym c.step_at-step.ensures)
    (next-inside (graph_of c.args.walks) c.args.walks.source c.args.walks.steps.now c.args.cells.now c.args.node c.args.number c.requires)

pub returns : goal.returns
returns c = record {
  cell = c.cell_at-cell.ensures ∙ ap (λ (step : Step). cell_at c.args.cells.now step.from) c.step_at-step.ensures;
  step = ap (λ (step : Step). step.formula) c.step_at-step.ensures;
  from = c.vocabulary_at-from.ensures;
  to = c.vocabulary_at-to.ensures;
}
