use Rattle.star_completeness.proofs.Finishing.{finishing-loses-nothing}
use Rattle.star_completeness.proofs.laws.finishing_loses_nothing.Goals as goal

pub returns : goal.returns
returns c = finishing-loses-nothing
