use Rattle.point_ways.proofs.HeadRanks.{places_are_ranks, ranks_are_places}
use Rattle.point_ways.proofs.laws.ranks_are_places.Goals as goal

pub returns-clause-ranks : goal.returns-clause-ranks
returns-clause-ranks c = ranks_are_places

pub returns-clause-places : goal.returns-clause-places
returns-clause-places c = places_are_ranks
