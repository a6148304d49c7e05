use Rattle.wire.proofs.sharing.share.Goals as goal

pub loop-answer-preserved : goal.loop-answer-preserved
loop-answer-preserved c = c.in_ok-push_shared.ensures c.loop-answer.yielded c.loop-answer.invariant
