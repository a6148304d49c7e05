use Rattle.std.proofs.Common.{◌<◌, length, ap, subst, sym, ◌∙◌}
use Rattle.std.specs.List.{AllByRecursion}
use Rattle.posing.specs.Posing.{Done, each}
use Rattle.posing.proofs.Steps.{at_end, value_first}
use Rattle.forward_graphs.specs.Evaluation.{all_steps, joined_steps, no_steps, with_joined}
use Rattle.forward_graphs.specs.Graph.{graph_in}
use Rattle.forward_graphs.proofs.StepLaws.{order-below}
use Rattle.forward_graphs.proofs.joining.joined_steps.Goals as goal

pub all_joined-requires-clause-order : goal.all_joined-requires-clause-order
all_joined-requires-clause-order g c =
    subst (AllByRecursion (λ n. n < length c.args.steps.now)) (sym (c.as_slice.ensures ∙ c.in_ok-order.ensures)) (order-below (graph_in c.args.graph) c.args.steps.now c.requires)

pub returns : goal.returns
unfolding joined_steps
returns g c =
    value_first (λ joining. Done (all_steps joining)) c.in_ok-joining.ensures (ap (each (with_joined (graph_in c.args.graph) c.args.steps.now) no_steps) (c.as_slice.ensures ∙ c.in_ok-order.ensures))
    (at_end c.in_ok-all_steps.ensures)
