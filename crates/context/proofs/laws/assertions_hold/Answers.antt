use Rattle.context.proofs.Soundness.{never-fails}
use Rattle.context.proofs.laws.assertions_hold.Goals as goal

pub returns : goal.returns
returns c = never-fails
