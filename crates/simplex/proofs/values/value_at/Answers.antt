use Rattle.std.proofs.Common.{rules, IfErr}
use Rattle.simplex.specs.Refusal.{LeavesBits}
use Rattle.simplex.proofs.BasisLeaves.{value-width}
use Rattle.simplex.proofs.values.value_at.Goals as goal

pub returns-in_err-value-clause-width : goal.returns-in_err-value-clause-width
returns-in_err-value-clause-width c =
    let known : IfErr c.poly_value.result LeavesBits = value-width c.args.columns.now c.args.point.now c.args.poly.now c.poly_value.result c.poly_value.ensures in search rules
