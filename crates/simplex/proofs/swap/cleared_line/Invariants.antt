use Rattle.std.proofs.Common.{◌≡◌, drop, length}
use Rattle.simplex.specs.Endings.{cleared_line}
use Rattle.simplex.proofs.swap.cleared_line.Given as goal

abbrev pub invariant-loop-k : goal.invariant-loop-k
invariant-loop-k l = (length l.made ≡ length l.fn.line) × (cleared_line (drop l.k l.lines) l.chosen l.k l.made ≡ cleared_line l.lines l.chosen 0 l.fn.line)
