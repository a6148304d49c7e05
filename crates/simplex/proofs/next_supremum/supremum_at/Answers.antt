use Rattle.simplex.proofs.next_supremum.supremum_at.Goals as goal

pub returns-in_ok-found-in-Some-clause-supremum : goal.returns-in_ok-found-in-Some-clause-supremum
returns-in_ok-found-in-Some-clause-supremum c = c.in_ok-found-in-Some.ensures.supremum c.args.budget
