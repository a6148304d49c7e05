use Rattle.simplex.proofs.answering.search_answer.Given as goal

abbrev pub ghost-corner_search : goal.ghost-corner_search
ghost-corner_search g a = g.over

abbrev pub ghost-answer_at : goal.ghost-answer_at
ghost-answer_at g a = g.over
