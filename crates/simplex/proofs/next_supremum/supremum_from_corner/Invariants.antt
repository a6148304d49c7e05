use Rattle.simplex.proofs.next_supremum.supremum_from_corner.Given as goal

abbrev pub ghost-topped_stage : goal.ghost-topped_stage
ghost-topped_stage g a = g.case
