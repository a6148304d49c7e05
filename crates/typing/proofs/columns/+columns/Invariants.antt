use Rattle.std.proofs.Common.{◌≡◌, ◌++◌, drop}
use Rattle.syntax_tree.specs.SourceLine.{source_lines_of}
use Rattle.typing.specs.Lines.{all_columns_of}
use Rattle.typing.proofs.columns.+columns.Given as goal

abbrev pub invariant-all_columns-loop-line : goal.invariant-all_columns-loop-line
invariant-all_columns-loop-line l = l.columns ++ all_columns_of (source_lines_of (drop l.line-index l.lines)) ≡ l.fn.columns ++ all_columns_of (source_lines_of l.lines)
