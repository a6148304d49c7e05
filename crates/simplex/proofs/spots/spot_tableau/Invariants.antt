use Rattle.simplex.specs.Spots.{IsSpotTableau, ChoosesUnknowns}
use Rattle.simplex.proofs.spots.spot_tableau.Given as goal

abbrev pub ghost-with_last : goal.ghost-with_last
ghost-with_last a = a.count

abbrev pub invariant-loop-line : goal.invariant-loop-line
invariant-loop-line l = IsSpotTableau l.count l.lines l.t × ChoosesUnknowns l.count l.line l.t
