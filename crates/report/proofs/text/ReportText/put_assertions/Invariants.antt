use Rattle.std.proofs.Common.{◌≡◌, ◌++◌, ◌+◌, drop}
use Rattle.report.specs.Text.{assertions_text_from}
use Rattle.report.proofs.text.ReportText.put_assertions.Given as goal

abbrev pub invariant-loop-i : goal.invariant-loop-i
invariant-loop-i l =
    l.self ++ assertions_text_from l.blocks (l.i + 1) (drop l.i l.judged) ≡ l.fn.self ++ assertions_text_from l.blocks 1 l.judged
