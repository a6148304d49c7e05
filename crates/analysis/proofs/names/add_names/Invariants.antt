use Rattle.std.proofs.Common.{◌≡◌, ◌++◌, drop}
use Rattle.analysis.specs.Judging.{column_names}
use Rattle.analysis.proofs.names.add_names.Given as goal

abbrev pub invariant-loop-column : goal.invariant-loop-column
invariant-loop-column l = l.names ++ column_names (drop l.column-index l.columns) ≡ l.initial.names ++ column_names l.columns
