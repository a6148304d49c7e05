use Rattle.std.proofs.Common.{rules, IfErr}
use Rattle.simplex.specs.Refusal.{LeavesBits}
use Rattle.simplex.proofs.BasisLeaves.{minus-width}
use Rattle.simplex.proofs.spots.minus_value.Goals as goal

pub returns-in_err-value-clause-width : goal.returns-in_err-value-clause-width
returns-in_err-value-clause-width c =
    let known : IfErr c.turned_value.result LeavesBits = minus-width c.args.columns.now c.args.point.now c.args.poly.now c.turned_value.result c.turned_value.ensures in search rules
