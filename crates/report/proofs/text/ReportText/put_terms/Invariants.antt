use Rattle.std.proofs.Common.{◌≡◌, ◌++◌, drop, false}
use Rattle.std.specs.List.{flat_map}
use Rattle.linear_terms.specs.Texts.{term_text}
use Rattle.report.specs.Text.{column_text}
use Rattle.report.proofs.text.ReportText.put_terms.Given as goal

abbrev pub invariant-loop-mono : goal.invariant-loop-mono
invariant-loop-mono l =
    l.self ++ flat_map (term_text (column_text l.names) false) (drop l.mono-index l.more)
    ≡ l.initial.self ++ flat_map (term_text (column_text l.names) false) l.more
