use Rattle.std.proofs.Common.{arith}
use Rattle.linear_terms.specs.declared.col.Col.TheVariants.{At}
use Rattle.linear_terms.specs.Polynomial.{column_of}
use Rattle.newton_rounds.proofs.CratesBelow.{counted_from}
use Rattle.newton_rounds.proofs.pairs.columns_from.Goals as goal

pub loop-number-preserved : goal.loop-number-preserved
loop-number-preserved c =
    counted_from (λ n. column_of (At n)) c.args.first c.loop-number.number c.loop-number.made c.push.new.self c.in_ok-column.field-0 (omega arith) c.loop-number.invariant c.in_ok-column.ensures c.in_ok-push.ensures.ok
