use Rattle.std.proofs.Common.{None, Some, arith}
use Rattle.std.specs.Prelude.{if◌then◌else◌}
use Rattle.linear_terms.specs.declared.col.Col.TheVariants.{At}
use Rattle.linear_terms.specs.Polynomial.{column_of}
use Rattle.transition_formula.proofs.Ranges.{counted_more}
use Rattle.recurrence.specs.Words.{is_among}
use Rattle.recurrence.proofs.solving.stays.Goals as goal

pub loop-v-preserved : goal.loop-v-preserved
loop-v-preserved c =
    counted_more (λ v. if is_among c.args.modified.now v then None else Some (column_of (At v))) 0 c.loop-v.v c.loop-v.v c.loop-v.known c.push.new.self c.in_ok-stay.field-0 (omega arith) c.loop-v.invariant c.in_ok-stay.ensures c.in_ok-push.ensures.ok
