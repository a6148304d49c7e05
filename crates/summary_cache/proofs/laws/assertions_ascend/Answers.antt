use Rattle.summary_cache.proofs.AscendingPlaces as ascending
use Rattle.summary_cache.proofs.laws.assertions_ascend.Goals as goal

pub returns : goal.returns
returns c = ascending.assertions_ascend
