use Rattle.named_limits.proofs.Limitless.{tame-analysis}
use Rattle.named_limits.proofs.laws.tame_questions_name_none.Goals as goal

pub returns : goal.returns
returns c = tame-analysis
