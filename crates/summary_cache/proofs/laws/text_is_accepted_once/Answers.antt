use Rattle.summary_cache.proofs.Complete.{accepted-once}
use Rattle.summary_cache.proofs.laws.text_is_accepted_once.Goals as goal

pub returns : goal.returns
returns c = accepted-once
