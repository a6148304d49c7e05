use Rattle.std.proofs.Common.{arith}
use Rattle.leaf_cases.proofs.AuxiliaryMoves.{range-more}
use Rattle.leaf_cases.proofs.listed.numbers_from.Goals as goal

pub loop-number-preserved : goal.loop-number-preserved
loop-number-preserved c =
    range-more c.args.first c.loop-number.number c.loop-number.made c.push.new.self (omega arith) c.loop-number.invariant c.in_ok-push.ensures.ok
