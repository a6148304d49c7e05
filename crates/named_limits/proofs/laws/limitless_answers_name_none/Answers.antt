use Rattle.named_limits.proofs.Limitless.{named-limitless}
use Rattle.named_limits.proofs.laws.limitless_answers_name_none.Goals as goal

pub returns : goal.returns
returns c = named-limitless
