use Rattle.std.proofs.Common.{◌≡◌, map, take}
use Rattle.elimination.specs.BasisParts.{zero_tie}
use Rattle.elimination.proofs.basis.zero_ties.Given as goal

abbrev pub invariant-loop-case : goal.invariant-loop-case
invariant-loop-case l = l.made ≡ map zero_tie (take l.case-index l.cases)
