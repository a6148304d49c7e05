use Rattle.std.proofs.Common.{◌≡◌, map}
use Rattle.std.specs.List.{range_with_len}
use Rattle.report.specs.Text.{shown_name}
use Rattle.report.proofs.names.entry_names.Given as goal

abbrev pub invariant-loop-i : goal.invariant-loop-i
invariant-loop-i l = l.names ≡ map (λ i. shown_name l.before i i) (range_with_len 0 l.i)
