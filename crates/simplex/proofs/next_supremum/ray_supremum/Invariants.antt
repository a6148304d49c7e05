use Rattle.simplex.proofs.next_supremum.ray_supremum.Given as goal

abbrev pub ghost-corner : goal.ghost-corner
ghost-corner g a = g.over
