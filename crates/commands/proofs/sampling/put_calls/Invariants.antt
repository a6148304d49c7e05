use Rattle.std.proofs.Common.{◌≡◌, ◌++◌}
use Rattle.std.specs.List.{flat_map, range_with_len}
use Rattle.commands.specs.Sample.{call_text}
use Rattle.commands.proofs.sampling.put_calls.Given as goal

abbrev pub invariant-loop-number : goal.invariant-loop-number
invariant-loop-number l = l.text.bytes.items ≡ l.initial.text.bytes.items ++ flat_map call_text (range_with_len 1 l.number)
