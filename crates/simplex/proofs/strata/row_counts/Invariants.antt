use Rattle.std.proofs.Common.{All, take}
use Rattle.simplex.specs.SmallBasis.{HasFewRows}
use Rattle.simplex.proofs.strata.row_counts.Given as goal

abbrev pub invariant-loop-case : goal.invariant-loop-case
invariant-loop-case l = All HasFewRows (take l.case-index l.cases)
