use Rattle.cones.proofs.PivotSearch.{flat_and_rest-split}
use Rattle.cones.proofs.Splitting.{units-split, units-pivots}
use Rattle.cones.proofs.laws.flats_and_rest_split.Goals as goal

pub returns-clause-splits : goal.returns-clause-splits
returns-clause-splits c = units-split

pub returns-clause-pivots : goal.returns-clause-pivots
returns-clause-pivots c = units-pivots

pub returns-clause-both : goal.returns-clause-both
returns-clause-both c = flat_and_rest-split
