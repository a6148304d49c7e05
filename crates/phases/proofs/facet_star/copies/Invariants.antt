use Rattle.std.proofs.Common.{◌≡◌, take}
use Rattle.phases.proofs.facet_star.copies.Given as goal

abbrev pub invariant-loop-poly : goal.invariant-loop-poly
invariant-loop-poly l = l.made ≡ take l.poly-index l.polys
