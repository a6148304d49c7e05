use Rattle.simplex.proofs.supremum.point_and_ray.Given as goal

abbrev pub ghost-corner : goal.ghost-corner
ghost-corner g a = g.over

abbrev pub ghost-ray : goal.ghost-ray
ghost-ray g a = g.over
