use Rattle.std.proofs.Common.{◌≡◌, ◌++◌, ◌+◌, drop}
use Rattle.report.specs.Text.{cases_from}
use Rattle.report.proofs.text.ReportText.put_cases.Given as goal

abbrev pub invariant-loop-i : goal.invariant-loop-i
invariant-loop-i l =
    l.self ++ cases_from l.names l.after (l.i + 1) (drop l.i l.cases) ≡ l.fn.self ++ cases_from l.names l.after 1 l.cases
