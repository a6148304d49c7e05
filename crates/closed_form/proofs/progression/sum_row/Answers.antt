use Rattle.std.proofs.Common.{◌≡◌, Ok, rules}
use Rattle.linear_terms.specs.declared.row.Kind.TheVariants.{AtMost}
use Rattle.linear_terms.specs.declared.row.Row.{Row}
use Rattle.closed_form.specs.ClosedRow.{sum_row}
use Rattle.closed_form.proofs.Progressions.{sum_row-value, sum_row-climb}
use Rattle.closed_form.proofs.progression.sum_row.Goals as goal

pub returns-clause-value : goal.returns-clause-value
returns-clause-value c at =
    let r : Row = record { poly = c.in_ok-poly.poly; kind = AtMost } in
    let exact : sum_row c.args.change.now c.args.s.now c.args.e c.args.c c.args.k ≡ Ok r = search rules in
    sum_row-value at c.args.change.now c.args.s.now c.args.e c.args.c c.args.k r exact

pub returns-clause-holds : goal.returns-clause-holds
returns-clause-holds c at climb is reads =
    let r : Row = record { poly = c.in_ok-poly.poly; kind = AtMost } in
    let exact : sum_row c.args.change.now c.args.s.now c.args.e c.args.c c.args.k ≡ Ok r = search rules in
    sum_row-climb at climb c.args.change.now c.args.s.now c.args.e c.args.c c.args.k r exact is reads
