use Rattle.std.proofs.Common.{rules, IfErr}
use Rattle.simplex.specs.Refusal.{LeavesBits}
use Rattle.simplex.proofs.BasisLeaves.{denominator-width}
use Rattle.simplex.proofs.values.common_denominator.Goals as goal

pub returns-in_err-common-clause-width : goal.returns-in_err-common-clause-width
returns-in_err-common-clause-width c =
    let known : IfErr c.all_denominators.result LeavesBits = denominator-width c.args.values.now c.all_denominators.result c.all_denominators.ensures.exact in search rules
