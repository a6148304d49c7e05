use Rattle.std.proofs.Common.{◌≡◌, ◌++◌}
use Rattle.report.specs.Text.{more_values}
use Rattle.report.proofs.text.ReportText.put_more_values.Given as goal

abbrev pub invariant-loop-mono : goal.invariant-loop-mono
invariant-loop-mono l =
    l.self ++ more_values l.names l.mono-iterator.a.rest.now l.mono-iterator.b.rest.now ≡ l.fn.self ++ more_values l.names l.of l.at
