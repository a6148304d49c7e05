use Rattle.simplex.proofs.supremum.topped_stage.Given as goal

abbrev pub ghost-top_of : goal.ghost-top_of
ghost-top_of g a = g.case

abbrev pub ghost-bound_of : goal.ghost-bound_of
ghost-bound_of g a = g.case.over

abbrev pub ghost-point_and_ray : goal.ghost-point_and_ray
ghost-point_and_ray g a = g.case.over
