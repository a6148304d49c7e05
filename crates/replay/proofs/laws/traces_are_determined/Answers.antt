use Rattle.replay.proofs.Traces.{traces_are_determined}
use Rattle.replay.proofs.laws.traces_are_determined.Goals as goal

pub returns : goal.returns
returns c = traces_are_determined
