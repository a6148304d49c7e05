use Rattle.transition_formula.proofs.Meanings.{nothing-noted}
use Rattle.transition_formula.proofs.solving.solve.Goals as goal

pub returns-clause-at_most : goal.returns-clause-at_most
returns-clause-at_most c before after kept =
    c.in_ok-solved.ensures.at_most before after (nothing-noted c.new-lost.ensures c.in_ok-append.ensures.ok kept)
