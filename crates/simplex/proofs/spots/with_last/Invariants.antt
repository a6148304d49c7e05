use Rattle.std.proofs.Common.{◌+◌, length}
use Rattle.simplex.proofs.spots.with_last.Given as goal

abbrev pub ghost-exchange : goal.ghost-exchange
ghost-exchange g a = g.units + length a.self.lines
