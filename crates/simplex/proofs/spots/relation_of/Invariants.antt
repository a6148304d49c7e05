use Rattle.simplex.proofs.spots.relation_of.Given as goal

abbrev pub ghost-ray : goal.ghost-ray
ghost-ray g a = g.over
