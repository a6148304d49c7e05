use Rattle.simplex.specs.Spots.{spots_frame}
use Rattle.simplex.proofs.strata.tested_unknown.Given as goal

abbrev pub ghost-relation_of : goal.ghost-relation_of
ghost-relation_of a = spots_frame a.count a.known.now.lines
