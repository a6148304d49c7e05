use Rattle.simplex.specs.Spots.{AreRelations}
use Rattle.simplex.proofs.spots.relations_of.Given as goal

abbrev pub invariant-loop-unknown : goal.invariant-loop-unknown
invariant-loop-unknown l = AreRelations l.count l.known.tableau l.unknown l.made
