use Rattle.std.proofs.Common.{◌≡◌, ◌++◌, codes, drop}
use Rattle.std.specs.Fmt.{signed_decimal}
use Rattle.std.specs.List.{flat_map}
use Rattle.replay.proofs.text.TraceText.put_numbers.Given as goal

abbrev pub invariant-loop-number : goal.invariant-loop-number
invariant-loop-number l =
    l.self.bytes.items ++ flat_map (λ y. codes ", " ++ signed_decimal y) (drop l.number-index l.more)
    ≡ l.initial.self.bytes.items ++ flat_map (λ y. codes ", " ++ signed_decimal y) l.more
