use Rattle.summary_cache.proofs.Rules as rules
use Rattle.summary_cache.proofs.laws.rules_are_free.Goals as goal

pub returns : goal.returns
returns c = rules.rules_are_free
