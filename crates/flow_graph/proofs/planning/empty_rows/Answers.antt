use Rattle.std.proofs.Common.{[], ◌∷◌, ◌++◌, ◌∙◌}
use Rattle.flow_graph.proofs.Filling.{rows_more}
use Rattle.flow_graph.proofs.planning.empty_rows.Goals as goal

pub loop-place-preserved : goal.loop-place-preserved
loop-place-preserved c =
    c.in_ok-push.ensures.items ∙ (λ i. c.loop-place.invariant i ++ c.new.ensures i ∷ []) ∙ rows_more c.loop-place._place
