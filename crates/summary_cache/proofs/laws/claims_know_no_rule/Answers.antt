use Rattle.summary_cache.proofs.Rules as rules
use Rattle.summary_cache.proofs.laws.claims_know_no_rule.Goals as goal

pub returns : goal.returns
returns c = rules.claims_know_no_rule
