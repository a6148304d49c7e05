use Rattle.transition_formula.proofs.Meanings.{nothing-noted}
use Rattle.transition_formula.proofs.sequence.seq.Goals as goal

pub returns-clause-at_most : goal.returns-clause-at_most
returns-clause-at_most c before middle kept =
    c.in_ok-formula.ensures.at_most before middle (nothing-noted c.new-lost.ensures c.in_ok-append.ensures.ok kept)
