use Rattle.std.proofs.Common.{◌≡◌, ◌+◌, drop}
use Rattle.std.specs.List.{count_by}
use Rattle.report.specs.Text.{is_proved}
use Rattle.report.proofs.printing.proved_count.Given as goal

abbrev pub invariant-loop-judged : goal.invariant-loop-judged
invariant-loop-judged l = l.count + count_by is_proved (drop l.judged-index l.judged) ≡ count_by is_proved l.judged
