use Rattle.simplex.proofs.supremum.raised_objective.Given as goal

abbrev pub ghost-raised_goal : goal.ghost-raised_goal
ghost-raised_goal g a = g.case.over
