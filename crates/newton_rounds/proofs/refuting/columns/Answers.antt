use Rattle.std.proofs.Common.{arith, refl, sym}
use Rattle.linear_terms.specs.declared.col.Col.TheVariants.{At}
use Rattle.linear_terms.specs.Polynomial.{column_of}
use Rattle.newton_rounds.proofs.CratesBelow.{counted_more}
use Rattle.newton_rounds.proofs.Opposite.{one-ok}
use Rattle.newton_rounds.proofs.refuting.columns.Goals as goal

pub loop-number-preserved : goal.loop-number-preserved
loop-number-preserved c =
    counted_more (λ n. column_of (At n)) 0 c.loop-number.number c.loop-number.number c.loop-number.made c.push.new.self c.in_ok-column.field-0 (omega arith) c.loop-number.invariant (sym (one-ok refl c.in_ok-column.ensures)) c.in_ok-push.ensures.ok
