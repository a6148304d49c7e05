use Rattle.recurrence.proofs.Whole.{star-holds-of-chains, star-fits}
use Rattle.recurrence.proofs.law.star_covers_chains.Goals as goal

pub returns : goal.returns
returns c = record { holds = star-holds-of-chains; fits = star-fits }
