use Rattle.std.proofs.Common.{arith}
use Rattle.linear_terms.specs.declared.col.Col.TheVariants.{At}
use Rattle.linear_terms.specs.Polynomial.{column_of}
use Rattle.transition_formula.proofs.Ranges.{counted_more}
use Rattle.point_rows.proofs.exits.columns.Goals as goal

pub loop-number-preserved : goal.loop-number-preserved
loop-number-preserved c =
    counted_more (λ n. column_of (At n)) 0 c.loop-number.number c.loop-number.number c.loop-number.made c.push.new.self c.in_ok-column.field-0 (omega arith) c.loop-number.invariant c.in_ok-column.ensures c.in_ok-push.ensures.ok
