use Rattle.summary_cache.proofs.Complete.{refusal-once}
use Rattle.summary_cache.proofs.laws.refusal_is_one.Goals as goal

pub returns : goal.returns
returns c = refusal-once
