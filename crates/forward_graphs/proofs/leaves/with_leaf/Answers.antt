use Rattle.std.proofs.Common.{[], ◌∷◌, ◌++◌, ap, refl, ◌∙◌}
use Rattle.posing.specs.Posing.{Done}
use Rattle.posing.proofs.Steps.{at_end, value_first}
use Rattle.forward_graphs.specs.Evaluation.{step_of, with_leaf}
use Rattle.checked_tree.specs.Graph.{link_at}
use Rattle.forward_graphs.specs.Graph.{graph_in}
use Rattle.forward_graphs.proofs.leaves.with_leaf.Goals as goal

pub returns : goal.returns
unfolding with_leaf
returns g c =
    value_first (λ f. Done (c.args.made ++ step_of (link_at (graph_in c.args.graph) c.args.number) f ∷ [])) c.in_ok-formula.ensures refl
    (at_end (c.in_ok-with_step.ensures ∙ ap (λ link. c.args.made ++ step_of link c.in_ok-formula.formula ∷ []) c.link_at.ensures))
