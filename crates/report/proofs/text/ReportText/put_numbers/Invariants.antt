use Rattle.std.proofs.Common.{◌≡◌, ◌++◌, codes, drop}
use Rattle.std.specs.List.{flat_map}
use Rattle.std.specs.Fmt.{signed_decimal}
use Rattle.report.proofs.text.ReportText.put_numbers.Given as goal

abbrev pub invariant-loop-number : goal.invariant-loop-number
invariant-loop-number l =
    l.self ++ flat_map (λ n. codes ", " ++ signed_decimal n) (drop l.number-index l.more)
    ≡ l.initial.self ++ flat_map (λ n. codes ", " ++ signed_decimal n) l.more
