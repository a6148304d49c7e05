use Rattle.replay.proofs.Traces.{failed_stop_fails}
use Rattle.replay.proofs.laws.failed_stop_fails.Goals as goal

pub returns : goal.returns
returns c = failed_stop_fails
