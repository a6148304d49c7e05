use Rattle.execution.proofs.Widths.{globals_stay}
use Rattle.execution.proofs.laws.globals_stay.Goals as goal

pub returns : goal.returns
returns c = globals_stay
