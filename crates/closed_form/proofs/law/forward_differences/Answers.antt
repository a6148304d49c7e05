use Rattle.closed_form.proofs.Formula.{forward_difference_formula, run-holds}
use Rattle.closed_form.proofs.law.forward_differences.Goals as goal

pub returns : goal.returns
returns c = record { sequences = forward_difference_formula; runs = run-holds }
