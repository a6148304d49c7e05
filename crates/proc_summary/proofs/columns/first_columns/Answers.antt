use Rattle.proc_summary.proofs.CratesBelow.{range-next}
use Rattle.proc_summary.proofs.columns.first_columns.Goals as goal

pub loop-number-preserved : goal.loop-number-preserved
loop-number-preserved c = range-next c.loop-number.number c.loop-number.numbers c.push.new.self c.loop-number.invariant c.in_ok-push.ensures.ok
