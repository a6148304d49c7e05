use Rattle.analysis_laws.proofs.GroupParts.{parts_are_met}
use Rattle.analysis_laws.proofs.laws.parts_are_met.Goals as goal

pub returns : goal.returns
returns c = parts_are_met
