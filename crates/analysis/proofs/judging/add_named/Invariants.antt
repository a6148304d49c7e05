use Rattle.std.proofs.Common.{◌≡◌, ◌+◌, ◌++◌, drop}
use Rattle.vocabularies.specs.Ends.{named_columns_from}
use Rattle.analysis.proofs.judging.add_named.Given as goal

abbrev pub invariant-loop-column : goal.invariant-loop-column
invariant-loop-column l =
    record {
      number : l.number ≡ l.first + l.column-index;
      numbers : l.numbers ++ named_columns_from l.number (drop l.column-index l.columns) ≡ l.fn.numbers ++ named_columns_from l.first l.columns;
    }
