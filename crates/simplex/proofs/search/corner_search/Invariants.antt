use Rattle.simplex.proofs.search.corner_search.Given as goal

abbrev pub ghost-equations : goal.ghost-equations
ghost-equations g a = g.over

abbrev pub ghost-inequalities : goal.ghost-inequalities
ghost-inequalities g a = g.over

abbrev pub ghost-turns : goal.ghost-turns
ghost-turns g a = g.over
