use Rattle.std.proofs.Common.{◌≡◌, take}
use Rattle.elimination.specs.BasisParts.{no_multipliers}
use Rattle.elimination.proofs.basis.no_multipliers.Given as goal

abbrev pub invariant-loop-row : goal.invariant-loop-row
invariant-loop-row l = l.made ≡ no_multipliers (take l._row-index l.rows)
