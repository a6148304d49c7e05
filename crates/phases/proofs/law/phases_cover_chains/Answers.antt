use Rattle.phases.proofs.Whole.{phases-fit, phases-hold}
use Rattle.phases.proofs.law.phases_cover_chains.Goals as goal

pub returns : goal.returns
returns c = record { holds = phases-hold; fits = phases-fit }
