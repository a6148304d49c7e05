use Rattle.summary_cache.proofs.Complete.{not-refused}
use Rattle.summary_cache.proofs.laws.accepted_is_not_refused.Goals as goal

pub returns : goal.returns
returns c = not-refused
