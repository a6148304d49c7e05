use Rattle.std.proofs.Common.{take}
use Rattle.elimination.specs.Spaces.{IsSpaceOf}
use Rattle.elimination.proofs.reduction.span_of.Given as goal

abbrev pub invariant-loop-row : goal.invariant-loop-row
invariant-loop-row l = IsSpaceOf (take l.row-index l.rows) l.space
