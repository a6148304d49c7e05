use Rattle.std.proofs.Common.{subst}
use Rattle.linear_terms.specs.Row.{AreCanonical}
use Rattle.transition_formula.proofs.Ordering.{in_order-IfOk, in_order-IfOk-most, in_order-IfOk-fits}
use Rattle.transition_formula.proofs.solving.solved_case.Goals as goal

pub returns-clause-at_least : goal.returns-clause-at_least
returns-clause-at_least c =
    in_order-IfOk c.args.case.now c.in_order.result (subst AreCanonical c.as_slice.ensures c.see_rows.ensures) c.requires.numbered c.in_order.ensures.exact

pub returns-clause-at_most : goal.returns-clause-at_most
returns-clause-at_most c =
    in_order-IfOk-most c.args.case.now c.in_order.result c.args.losses.now c.in_order.new.losses (subst AreCanonical c.as_slice.ensures c.see_rows.ensures) c.requires.numbered c.in_order.ensures.exact c.in_order.ensures.noted

pub returns-clause-fits : goal.returns-clause-fits
returns-clause-fits c from to h = in_order-IfOk-fits c.args.case.now c.in_order.result c.in_order.ensures.exact from to h
