use Rattle.named_limits.proofs.Shares.{analysis-names}
use Rattle.named_limits.proofs.laws.analysis_names_limits.Goals as goal

pub returns : goal.returns
returns c = analysis-names
