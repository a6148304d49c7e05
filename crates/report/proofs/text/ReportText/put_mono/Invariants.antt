use Rattle.std.proofs.Common.{◌≡◌, ◌++◌, codes, drop}
use Rattle.std.specs.List.{flat_map}
use Rattle.report.specs.Text.{column_text}
use Rattle.report.proofs.text.ReportText.put_mono.Given as goal

abbrev pub invariant-loop-col : goal.invariant-loop-col
invariant-loop-col l =
    l.self ++ flat_map (λ y. codes "*" ++ column_text l.names y) (drop l.col-index l.more)
    ≡ l.initial.self ++ flat_map (λ y. codes "*" ++ column_text l.names y) l.more
