use Rattle.phases.proofs.Repetitions.{repetitions-fit, repetitions-hold}
use Rattle.phases.proofs.law.repetitions_cover_chains.Goals as goal

pub returns : goal.returns
returns c = record { holds = repetitions-hold; fits = repetitions-fit }
