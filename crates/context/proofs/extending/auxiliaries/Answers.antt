use Rattle.std.proofs.Common.{arith}
use Rattle.linear_terms.specs.declared.col.Col.TheVariants.{Aux}
use Rattle.linear_terms.specs.Polynomial.{column_of}
use Rattle.transition_formula.proofs.Ranges.{counted_from}
use Rattle.context.proofs.extending.auxiliaries.Goals as goal

pub loop-number-preserved : goal.loop-number-preserved
loop-number-preserved c =
    counted_from (λ n. column_of (Aux n)) c.args.first c.loop-number.number c.loop-number.made c.push.new.self c.in_ok-auxiliary.field-0 (omega arith) c.loop-number.invariant c.in_ok-auxiliary.ensures c.in_ok-push.ensures.ok
