use Rattle.simplex.specs.Spots.{AreUnitLists, chosen_below}
use Rattle.simplex.proofs.spots.unit_lists.Given as goal

abbrev pub invariant-loop-unknown : goal.invariant-loop-unknown
invariant-loop-unknown l = AreUnitLists l.count l.known (chosen_below l.known.tableau l.unknown) l.made
