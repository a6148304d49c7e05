use Rattle.std.proofs.Common.{◌≡◌, ◌++◌, drop}
use Rattle.elimination.specs.Descents.{over_line}
use Rattle.elimination.proofs.inner.over_line.Given as goal

abbrev pub invariant-loop-column : goal.invariant-loop-column
invariant-loop-column l = l.made ++ over_line (drop l._column-index l.columns) ≡ over_line l.columns
