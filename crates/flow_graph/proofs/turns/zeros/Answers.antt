use Rattle.std.proofs.Common.{ℕ, List, [], ◌∷◌, ◌++◌, ap, ◌∙◌}
use Rattle.flow_graph.proofs.GroupOrders.{zeros_more}
use Rattle.flow_graph.proofs.turns.zeros.Goals as goal

pub loop-place-preserved : goal.loop-place-preserved
loop-place-preserved c =
    c.in_ok-push.ensures.items ∙ ap (λ (xs : List ℕ). xs ++ 0 ∷ []) c.loop-place.invariant ∙ zeros_more c.loop-place._place
