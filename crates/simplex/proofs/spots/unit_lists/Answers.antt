use Rattle.simplex.proofs.spots.unit_lists.Goals as goal

pub loop-unknown-preserved : goal.loop-unknown-preserved
loop-unknown-preserved c = c.in_ok-made.ensures.lists
