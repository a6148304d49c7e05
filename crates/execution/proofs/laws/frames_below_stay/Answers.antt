use Rattle.execution.proofs.Stack.{frames_below_stay}
use Rattle.execution.proofs.laws.frames_below_stay.Goals as goal

pub returns : goal.returns
returns c = frames_below_stay
