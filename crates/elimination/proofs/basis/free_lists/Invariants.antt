use Rattle.std.proofs.Common.{◌≡◌, map, take, length}
use Rattle.elimination.specs.BasisParts.{dual_multiples}
use Rattle.elimination.proofs.basis.free_lists.Given as goal

abbrev pub invariant-loop-dual : goal.invariant-loop-dual
invariant-loop-dual l = l.made ≡ map (dual_multiples (length l.columns) l.probes l.inners) (take l.dual-index l.duals)
