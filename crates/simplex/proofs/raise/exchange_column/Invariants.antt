use Rattle.std.proofs.Common.{length, ◌+◌}
use Rattle.simplex.proofs.raise.exchange_column.Given as goal

abbrev pub ghost-exchange : goal.ghost-exchange
ghost-exchange g a = g.over.units + length a.self.lines
