use Rattle.simplex.proofs.supremum.lowered_goal.Given as goal

abbrev pub ghost-raised_objective : goal.ghost-raised_objective
ghost-raised_objective g a = g.case
