use Rattle.std.proofs.Common.{[], ap, sym, subst, ◌∙◌}
use Rattle.posing.specs.Posing.{each}
use Rattle.posing.proofs.Steps.{in_other_words}
use Rattle.forward_graphs.specs.Evaluation.{leaf_steps, with_leaf}
use Rattle.forward_graphs.specs.Graph.{graph_in}
use Rattle.forward_graphs.specs.UnderWay.{AreReadyLinks}
use Rattle.forward_graphs.proofs.leaves.leaf_steps.Goals as goal

pub steps_of-requires : goal.steps_of-requires
steps_of-requires g c = subst (AreReadyLinks (graph_in c.args.graph)) (sym (c.as_slice.ensures ∙ c.in_ok-numbers.ensures)) c.requires

pub returns : goal.returns
unfolding leaf_steps
returns g c = in_other_words (ap (each (with_leaf (graph_in c.args.graph)) []) (c.as_slice.ensures ∙ c.in_ok-numbers.ensures)) c.steps_of.ensures
