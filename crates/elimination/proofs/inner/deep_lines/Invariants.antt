use Rattle.std.proofs.Common.{◌≡◌, ◌++◌, drop}
use Rattle.elimination.specs.Descents.{deep_lines}
use Rattle.elimination.proofs.inner.deep_lines.Given as goal

abbrev pub invariant-loop-row : goal.invariant-loop-row
invariant-loop-row l = l.made ++ deep_lines l.columns (drop l.row-index l.rows) ≡ deep_lines l.columns l.rows
