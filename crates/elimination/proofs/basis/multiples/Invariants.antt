use Rattle.std.proofs.Common.{◌≡◌, length, map, take, ◌*ℤ◌}
use Rattle.farkas_check.specs.Ratios.{lowest_terms}
use Rattle.farkas_check.specs.Relations.{entry}
use Rattle.elimination.proofs.basis.multiples.Given as goal

abbrev pub invariant-loop-weight : goal.invariant-loop-weight
invariant-loop-weight l = l.made ≡ map (λ w. lowest_terms (entry l.dual l.place *ℤ w) (entry l.dual (length l.probes))) (take l.weight-index l.taken)
