use Rattle.simplex.proofs.supremum.bound_of.Given as goal

abbrev pub ghost-corner : goal.ghost-corner
ghost-corner g a = g.over
