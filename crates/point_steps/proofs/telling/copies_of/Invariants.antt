use Rattle.std.proofs.Common.{◌≡◌, ◌++◌, drop}
use Rattle.point_steps.proofs.telling.copies_of.Given as goal

abbrev pub invariant-loop-poly : goal.invariant-loop-poly
invariant-loop-poly l = l.copies ++ drop l.poly-index l.polys ≡ l.polys
