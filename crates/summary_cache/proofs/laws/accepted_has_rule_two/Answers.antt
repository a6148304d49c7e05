use Rattle.summary_cache.proofs.Rules as rules
use Rattle.summary_cache.proofs.laws.accepted_has_rule_two.Goals as goal

pub returns : goal.returns
returns c = rules.accepted_has_rule_two
