use Rattle.std.proofs.Common.{◌≡◌, ◌++◌, drop}
use Rattle.newton_rounds.proofs.pairs.add_copies.Given as goal

abbrev pub invariant-loop-poly : goal.invariant-loop-poly
invariant-loop-poly l = l.made ++ drop l.poly-index l.polys ≡ l.initial.made ++ l.polys
