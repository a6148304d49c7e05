use Rattle.std.proofs.Common.{arith}
use Rattle.newton_rounds.proofs.CratesBelow.{range-more}
use Rattle.newton_rounds.proofs.ends.numbers_from.Goals as goal

pub loop-number-preserved : goal.loop-number-preserved
loop-number-preserved c = range-more c.args.first c.loop-number.number c.loop-number.numbers c.push.new.self (omega arith) c.loop-number.invariant c.in_ok-push.ensures.ok
