use Rattle.std.proofs.Common.{take}
use Rattle.farkas_check.specs.Kept.{ArePolysCanonical}
use Rattle.farkas_check.proofs.kept.canonical_polys.Given as goal

abbrev pub invariant-loop-poly : goal.invariant-loop-poly
invariant-loop-poly l = ArePolysCanonical (take l.poly-index l.polys)
