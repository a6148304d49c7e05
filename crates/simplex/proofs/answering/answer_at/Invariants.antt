use Rattle.simplex.proofs.answering.answer_at.Given as goal

abbrev pub ghost-corner : goal.ghost-corner
ghost-corner g a = g.over
