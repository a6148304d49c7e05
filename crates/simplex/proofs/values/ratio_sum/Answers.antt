use Rattle.std.proofs.Common.{rules, IfErr}
use Rattle.simplex.specs.Refusal.{LeavesBits}
use Rattle.simplex.proofs.BasisLeaves.{sum-width}
use Rattle.simplex.proofs.values.ratio_sum.Goals as goal

pub returns-in_err-made-clause-width : goal.returns-in_err-made-clause-width
returns-in_err-made-clause-width c =
    let known : IfErr c.sum.result LeavesBits = sum-width c.args.left.now c.args.right.now c.sum.result c.sum.ensures in search rules
