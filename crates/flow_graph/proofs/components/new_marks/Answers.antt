use Rattle.std.proofs.Common.{List, [], ◌∷◌, ◌++◌, ap, ◌∙◌}
use Rattle.flow_graph.specs.declared.components.NumberMark.{NumberMark}
use Rattle.flow_graph.specs.declared.components.NumberMark.TheVariants.{New}
use Rattle.flow_graph.proofs.Searching.{new_more}
use Rattle.flow_graph.proofs.components.new_marks.Goals as goal

pub loop-place-preserved : goal.loop-place-preserved
loop-place-preserved c =
    c.in_ok-push.ensures.items ∙ ap (λ (marks : List NumberMark). marks ++ New ∷ []) c.loop-place.invariant ∙ new_more c.loop-place._place
