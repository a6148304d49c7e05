use Rattle.std.proofs.Common.{[], length, ap, subst, sym, ◌∙◌}
use Rattle.items.proofs.Each.{each-more}
use Rattle.posing.specs.Posing.{each}
use Rattle.posing.proofs.Steps.{in_other_words}
use Rattle.forward_graphs.specs.declared.order.StepEnd.TheVariants.{Target}
use Rattle.forward_graphs.specs.Evaluation.{cells_by, with_node}
use Rattle.forward_graphs.specs.Order.{groups}
use Rattle.forward_graphs.specs.Placing.{ArePlaced, IsInside}
use Rattle.forward_graphs.specs.UnderWay.{graph_of, IsStep}
use Rattle.forward_graphs.proofs.Groups.{placed-all}
use Rattle.forward_graphs.proofs.walking.cells_by.Goals as goal

pub groups-requires : goal.groups-requires
groups-requires g c =
    subst (ArePlaced (length c.args.walks.graph.nodes.now) c.args.walks.steps.now) (sym (c.as_slice.ensures ∙ c.in_ok-numbers.ensures))
    (placed-all (length c.args.walks.graph.nodes.now) c.args.walks.steps.now
    (each-more (IsStep (graph_of c.args.walks)) (IsInside (length c.args.walks.graph.nodes.now)) (λ step is. record { start = is.start; target = is.target }) c.args.walks.steps.now c.requires.steps))

pub cells_of-requires-clause-nodes : goal.cells_of-requires-clause-nodes
cells_of-requires-clause-nodes g c = c.as_slice-2.ensures ∙ c.in_ok-nodes.ensures

pub cells_of-requires-clause-by_target : goal.cells_of-requires-clause-by_target
cells_of-requires-clause-by_target g c =
    c.as_slice-3.ensures ∙ c.in_ok-by_target.ensures ∙ ap (groups (length c.args.walks.graph.nodes.now) c.args.walks.steps.now Target) (c.as_slice.ensures ∙ c.in_ok-numbers.ensures)

pub returns : goal.returns
unfolding cells_by
returns g c =
    in_other_words (ap (each (with_node (graph_of c.args.walks) c.args.walks.source c.args.walks.steps.now) []) (c.as_slice-2.ensures ∙ c.in_ok-nodes.ensures)) c.cells_of.ensures
