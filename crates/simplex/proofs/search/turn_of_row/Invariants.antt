use Rattle.simplex.proofs.search.turn_of_row.Given as goal

abbrev pub ghost-turn_of : goal.ghost-turn_of
ghost-turn_of g a = g.over
