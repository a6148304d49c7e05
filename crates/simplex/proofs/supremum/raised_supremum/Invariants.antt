use Rattle.simplex.proofs.supremum.raised_supremum.Given as goal

abbrev pub ghost-corner_search : goal.ghost-corner_search
ghost-corner_search g a = g.case.over

abbrev pub ghost-topped_stage : goal.ghost-topped_stage
ghost-topped_stage g a = g.case
