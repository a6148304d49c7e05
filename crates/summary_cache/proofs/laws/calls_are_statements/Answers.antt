use Rattle.summary_cache.proofs.Calls.{calls-are_statements}
use Rattle.summary_cache.proofs.laws.calls_are_statements.Goals as goal

pub returns : goal.returns
returns c = calls-are_statements
