use Rattle.std.proofs.Common.{◌≡◌, map, take}
use Rattle.elimination.specs.Equations.{equation_of}
use Rattle.elimination.proofs.null_vectors.equations.Given as goal

abbrev pub invariant-loop-line : goal.invariant-loop-line
invariant-loop-line l = l.rows ≡ map equation_of (take l.line-index l.lines)
