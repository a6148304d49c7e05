use Rattle.std.proofs.Common.{◌≡◌, ◌++◌, drop, map}
use Rattle.elimination.specs.Descents.{line_row}
use Rattle.elimination.proofs.descents.line_goal.Given as goal

abbrev pub invariant-loop-line : goal.invariant-loop-line
invariant-loop-line l = l.rows ++ map line_row (drop l.line-index l.lines) ≡ map line_row l.lines
