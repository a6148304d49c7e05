use Rattle.simplex.proofs.supremum.top_of.Given as goal

abbrev pub ghost-lowered_goal : goal.ghost-lowered_goal
ghost-lowered_goal g a = g.case
