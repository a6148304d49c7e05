use Rattle.std.proofs.Common.{◌≡◌, ◌++◌, drop}
use Rattle.syntax_tree.specs.SourceLine.{source_lines_of}
use Rattle.typing.specs.Lines.{all_checks_of}
use Rattle.typing.proofs.checks.+checks.Given as goal

abbrev pub invariant-all_checks-loop-line : goal.invariant-all_checks-loop-line
invariant-all_checks-loop-line l = l.checks ++ all_checks_of (source_lines_of (drop l.line-index l.lines)) ≡ l.fn.checks ++ all_checks_of (source_lines_of l.lines)
