use Rattle.std.proofs.Common.{◌≡◌, Ok, rules}
use Rattle.linear_terms.specs.declared.row.Kind.TheVariants.{Equal}
use Rattle.linear_terms.specs.declared.row.Row.{Row}
use Rattle.closed_form.specs.ClosedRow.{closed_row}
use Rattle.closed_form.specs.Differences.{run_of}
use Rattle.closed_form.proofs.Formula.{IsRun-run_of}
use Rattle.closed_form.proofs.Values.{closed_row-value, closed_row-run}
use Rattle.closed_form.proofs.newton.row.Goals as goal

pub returns-clause-value : goal.returns-clause-value
returns-clause-value c at =
    let r : Row = record { poly = c.in_ok-poly.poly; kind = Equal } in
    let exact : closed_row c.args.after.now c.args.before.now c.args.d1.now c.args.d2.now c.args.d3.now c.args.k ≡ Ok r = search rules in
    closed_row-value at c.args.after.now c.args.before.now c.args.d1.now c.args.d2.now c.args.d3.now c.args.k r exact

pub returns-clause-holds : goal.returns-clause-holds
returns-clause-holds c at u n constant reads =
    let r : Row = record { poly = c.in_ok-poly.poly; kind = Equal } in
    let exact : closed_row c.args.after.now c.args.before.now c.args.d1.now c.args.d2.now c.args.d3.now c.args.k ≡ Ok r = search rules in
    closed_row-run at (run_of u n) c.args.after.now c.args.before.now c.args.d1.now c.args.d2.now c.args.d3.now c.args.k r exact (IsRun-run_of u n constant) reads

pub returns-clause-holds_on_runs : goal.returns-clause-holds_on_runs
returns-clause-holds_on_runs c at run is_run reads =
    let r : Row = record { poly = c.in_ok-poly.poly; kind = Equal } in
    let exact : closed_row c.args.after.now c.args.before.now c.args.d1.now c.args.d2.now c.args.d3.now c.args.k ≡ Ok r = search rules in
    closed_row-run at run c.args.after.now c.args.before.now c.args.d1.now c.args.d2.now c.args.d3.now c.args.k r exact is_run reads
