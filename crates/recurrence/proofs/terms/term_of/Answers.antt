use Rattle.recurrence.proofs.terms.term_of.Goals as goal

pub returns : goal.returns
returns c = λ i. record { relation = c.args.relation; recurrence = c.in_ok-recurrence.ensures i }
